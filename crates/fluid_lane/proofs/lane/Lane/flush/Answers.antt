use Rattle.std.proofs.Common.{refl, ap, arith}
use Rattle.fluid_lane.proofs.Stands.{goes_from, goes_to, quietly, failed}
use Rattle.fluid_lane.proofs.Flushing.{goes_flushed}
use Rattle.fluid_lane.proofs.Safe.{safe_beside}
use Rattle.fluid_lane.proofs.lane.Lane.flush.Goals as goal

pub invariant_of-self : goal.invariant_of-self
invariant_of-self g c =
    let e = c.in-Ok.ensures in
    safe_beside _ _ e.flushes.puts.kept.records (omega (arith, ap (λ m. m.messages.before) e.same, e.flushes.puts.kept.deltas, c.self.invariant.reached)) (ap (λ m. m.entries) e.same) refl c.self.invariant.few refl c.self.invariant

pub invariant_of-self-in-Err-DeltaFailed : goal.invariant_of-self-in-Err-DeltaFailed
invariant_of-self-in-Err-DeltaFailed g c =
    let e = rw c.in-Err-DeltaFailed.field-0-is at c.in-Err-DeltaFailed.ensures in
    safe_beside _ _ e.flushes.puts.puts.kept.records (omega (arith, ap (λ m. m.messages.before) e.same, e.flushes.puts.puts.kept.deltas, c.self.invariant.reached)) (ap (λ m. m.entries) e.same) refl c.self.invariant.few refl c.self.invariant

pub invariant_of-self-in-Err-NoMemory : goal.invariant_of-self-in-Err-NoMemory
invariant_of-self-in-Err-NoMemory g c =
    let e = rw c.in-Err-NoMemory.field-0-is at c.in-Err-NoMemory.ensures in
    safe_beside _ _ e.flushes.puts.puts.kept.records (omega (arith, ap (λ m. m.messages.before) e.same, e.flushes.puts.puts.kept.deltas, c.self.invariant.reached)) (ap (λ m. m.entries) e.same) refl c.self.invariant.few refl c.self.invariant

pub returns-in-Ok-clause-goes : goal.returns-in-Ok-clause-goes
returns-in-Ok-clause-goes g c =
    let e = c.in-Ok.ensures in
    goes_from _ _ _ _ c.self.view_is
    (goes_flushed _ _ _ _ (quietly _ _ refl refl) e.flushes.puts.kept e.flushes.later (ap (λ m. m.entries) e.same) (ap (λ m. m.messages) e.same) refl refl refl e.stands)

pub returns-in-Err-DeltaFailed-clause-goes : goal.returns-in-Err-DeltaFailed-clause-goes
returns-in-Err-DeltaFailed-clause-goes g c =
    let e = rw c.in-Err-DeltaFailed.field-0-is at c.in-Err-DeltaFailed.ensures in
    goes_to _ _ _ _ c.failed.ensures
    (goes_from _ _ _ _ c.self.view_is
    (goes_flushed _ _ _ _ (failed _ _ c.in-Err-DeltaFailed.note refl refl e.flushes.cause.last) e.flushes.puts.puts.kept e.flushes.later (ap (λ m. m.entries) e.same) (ap (λ m. m.messages) e.same) refl refl refl e.stands))

pub returns-in-Err-NoMemory-clause-goes : goal.returns-in-Err-NoMemory-clause-goes
returns-in-Err-NoMemory-clause-goes g c =
    let e = rw c.in-Err-NoMemory.field-0-is at c.in-Err-NoMemory.ensures in
    goes_from _ _ _ _ c.self.view_is
    (goes_flushed _ _ _ _ (quietly _ _ refl refl) e.flushes.puts.puts.kept e.flushes.later (ap (λ m. m.entries) e.same) (ap (λ m. m.messages) e.same) refl refl refl e.stands)
