use Rattle.std.proofs.Common.{refl, ap}
use Rattle.fluid_types.specs.Ledger.{order}
use Rattle.fluid_lane.specs.Steps.{ledger}
use Rattle.fluid_lane.proofs.Stands.{goes_from, goes_to, goes_same, quietly, failed}
use Rattle.fluid_lane.proofs.Flushing.{sliced, same_parts, ranges_of}
use Rattle.fluid_lane.proofs.Safe.{safe_same}
use Rattle.fluid_lane.proofs.lane.Lane.range.Goals as goal

pub invariant_of-self : goal.invariant_of-self
invariant_of-self g c = let e = c.in-Ok.ensures in safe_same _ _ e.reads.keeps (ap (λ m. m.entries) e.same) (ap (λ m. m.messages) e.same) refl refl refl c.self.invariant

pub invariant_of-self-in-Err-DeltaFailed : goal.invariant_of-self-in-Err-DeltaFailed
invariant_of-self-in-Err-DeltaFailed g c = let e = c.in-Err-DeltaFailed.ensures in safe_same _ _ e.reads.keeps (ap (λ m. m.entries) e.same) (ap (λ m. m.messages) e.same) refl refl refl c.self.invariant

pub invariant_of-self-in-Err-BadDelta : goal.invariant_of-self-in-Err-BadDelta
invariant_of-self-in-Err-BadDelta g c = let e = c.in-Err-BadDelta.ensures in safe_same _ _ e.reads.keeps (ap (λ m. m.entries) e.same) (ap (λ m. m.messages) e.same) refl refl refl c.self.invariant

pub invariant_of-self-in-Err-NoMemory : goal.invariant_of-self-in-Err-NoMemory
invariant_of-self-in-Err-NoMemory g c = let e = c.in-Err-NoMemory.ensures in safe_same _ _ e.reads.keeps (ap (λ m. m.entries) e.same) (ap (λ m. m.messages) e.same) refl refl refl c.self.invariant

pub returns-in-Ok-clause-goes : goal.returns-in-Ok-clause-goes
returns-in-Ok-clause-goes g c =
    let e = c.in-Ok.ensures in
    goes_from _ _ _ _ c.self.view_is (goes_same _ _ _ (quietly _ _ refl refl) e.reads.keeps e.reads.later (ap (λ m. m.entries) e.same) (ap (λ m. m.messages) e.same) refl refl refl)

pub returns-in-Err-DeltaFailed-clause-goes : goal.returns-in-Err-DeltaFailed-clause-goes
returns-in-Err-DeltaFailed-clause-goes g c =
    let e = rw c.in-Err-DeltaFailed.field-0-is at c.in-Err-DeltaFailed.ensures in
    goes_to _ _ _ _ c.failed.ensures
    (goes_from _ _ _ _ c.self.view_is (goes_same _ _ _ (failed _ _ c.in-Err-DeltaFailed.note refl refl e.reads.cause.last) e.reads.keeps e.reads.later (ap (λ m. m.entries) e.same) (ap (λ m. m.messages) e.same) refl refl refl))

pub returns-in-Err-BadDelta-clause-goes : goal.returns-in-Err-BadDelta-clause-goes
returns-in-Err-BadDelta-clause-goes g c =
    let e = c.in-Err-BadDelta.ensures in
    goes_from _ _ _ _ c.self.view_is (goes_same _ _ _ (quietly _ _ refl refl) e.reads.keeps e.reads.later (ap (λ m. m.entries) e.same) (ap (λ m. m.messages) e.same) refl refl refl)

pub returns-in-Err-NoMemory-clause-goes : goal.returns-in-Err-NoMemory-clause-goes
returns-in-Err-NoMemory-clause-goes g c =
    let e = c.in-Err-NoMemory.ensures in
    goes_from _ _ _ _ c.self.view_is (goes_same _ _ _ (quietly _ _ refl refl) e.reads.keeps e.reads.later (ap (λ m. m.entries) e.same) (ap (λ m. m.messages) e.same) refl refl refl)

pub returns-in-Ok-clause-ranges : goal.returns-in-Ok-clause-ranges
returns-in-Ok-clause-ranges g c = λ worn.
    let e = c.in-Ok.ensures in
    ranges_of _ _ _ _ _ _ _ c.self.view_is (ap (λ m. m.entries) e.same) (ap (λ m. m.messages) e.same) refl e.reads e.answer (λ held. (e.memory held, same_parts _ _ (e.untouched held) (ap (λ m. m.entries) e.same) (ap (λ m. m.messages) e.same) refl refl refl refl refl))

pub returns-in-Err-DeltaFailed-clause-ranges : goal.returns-in-Err-DeltaFailed-clause-ranges
returns-in-Err-DeltaFailed-clause-ranges g c = λ worn.
    let e = rw c.in-Err-DeltaFailed.field-0-is at c.in-Err-DeltaFailed.ensures in
    rw c.failed.ensures (ranges_of _ _ _ _ _ _ _ c.self.view_is (ap (λ m. m.entries) e.same) (ap (λ m. m.messages) e.same) refl e.reads e.answer (λ held. absurd (e.memory held)))

pub returns-in-Err-BadDelta-clause-ranges : goal.returns-in-Err-BadDelta-clause-ranges
returns-in-Err-BadDelta-clause-ranges g c = λ worn.
    let e = rw c.in-Err-BadDelta.field-0-is at c.in-Err-BadDelta.ensures in
    ranges_of _ _ _ _ _ _ _ c.self.view_is (ap (λ m. m.entries) e.same) (ap (λ m. m.messages) e.same) refl e.reads e.answer (λ held. absurd (e.memory held))

pub returns-in-Err-NoMemory-clause-ranges : goal.returns-in-Err-NoMemory-clause-ranges
returns-in-Err-NoMemory-clause-ranges g c = λ worn.
    let e = rw c.in-Err-NoMemory.field-0-is at c.in-Err-NoMemory.ensures in
    ranges_of _ _ _ _ _ _ _ c.self.view_is (ap (λ m. m.entries) e.same) (ap (λ m. m.messages) e.same) refl e.reads e.answer (λ held. (e.memory held, same_parts _ _ (e.untouched held) (ap (λ m. m.entries) e.same) (ap (λ m. m.messages) e.same) refl refl refl refl refl))

pub returns-in-Ok-clause-slice : goal.returns-in-Ok-clause-slice
returns-in-Ok-clause-slice g c = λ worn l h. sliced _ _ l _ c.self.view_is h (c.in-Ok.ensures.slice (order (ledger l)))

pub returns-in-Err-BadDelta-clause-slice : goal.returns-in-Err-BadDelta-clause-slice
returns-in-Err-BadDelta-clause-slice g c = λ worn l h.
    let e = rw c.in-Err-BadDelta.field-0-is at c.in-Err-BadDelta.ensures in
    sliced _ _ l _ c.self.view_is h (e.slice (order (ledger l)))
