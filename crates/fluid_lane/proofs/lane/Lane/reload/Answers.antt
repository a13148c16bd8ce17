use Rattle.std.proofs.Common.{refl, sym, ap, subst, ◌∙◌}
use Rattle.std.proofs.lemmas.Bool.{false≢true}
use Rattle.std.specs.FinMap.{keys}
use Rattle.fluid_io.specs.Causes.{Tells}
use Rattle.fluid_lane.specs.Steps.{ledger}
use Rattle.fluid_lane.specs.Restarts.{RefusesRestart}
use Rattle.fluid_lane.proofs.Stands.{goes_to, quietly, quietly_by, failed}
use Rattle.fluid_lane.proofs.Flushing.{goes_read, read_kept, kept_for, read_stands}
use Rattle.fluid_lane.proofs.Others.{bad_of, bad_steps, others_refused}
use Rattle.fluid_lane.proofs.lane.Lane.reload.Goals as goal

pub returns-then-not-have_same_ids-clause-loaded : goal.returns-then-not-have_same_ids-clause-loaded
returns-then-not-have_same_ids-clause-loaded g c =
    subst (λ s. Tells s.keeping.content (λ content. RefusesRestart c.args.number s.entries content c.from.result)) c.self.view_is
    (others_refused _ c.args.number _ _ c.from.result c.in-Ok.ensures.loaded
    (λ same. false≢true (c.if-not-have_same_ids.ensures.1 (ap keys c.clients.ensures ∙ same ∙ ap keys (sym c.clients-in-Ok.ensures)))) (bad_of _ _ _ _ c.bad_field.ensures c.from.ensures))

pub returns-then-not-have_same_ids-clause-goes : goal.returns-then-not-have_same_ids-clause-goes
returns-then-not-have_same_ids-clause-goes g c =
    let e = c.in-Ok.ensures in
    goes_read _ _ _ _ c.self.view_is (quietly_by _ _ _ (bad_steps _ _ c.from.result (bad_of _ _ _ _ c.bad_field.ensures c.from.ensures)) refl refl) e.puts e.later c.requires.level refl refl refl refl refl (λ l kept. read_kept c.in-Ok.document l _ (e.kept l kept))

pub returns-else-not-have_same_ids-clause-goes : goal.returns-else-not-have_same_ids-clause-goes
returns-else-not-have_same_ids-clause-goes g c =
    let e = c.in-Ok.ensures in
    goes_read _ _ _ _ c.self.view_is (quietly _ _ refl refl) e.puts e.later c.requires.level refl refl refl refl refl (λ l kept. read_kept c.in-Ok.document l _ (e.kept l kept))

pub returns-else-not-have_same_ids-clause-stands : goal.returns-else-not-have_same_ids-clause-stands
returns-else-not-have_same_ids-clause-stands g c = λ l h.
    read_stands c.in-Ok.document (ledger l) _ (c.in-Ok.ensures.kept (ledger l) (kept_for _ _ l c.self.view_is c.requires.level h))

pub returns-in-Err-LogFailed-clause-goes : goal.returns-in-Err-LogFailed-clause-goes
returns-in-Err-LogFailed-clause-goes g c =
    let e = rw c.in-Err-LogFailed.field-0-is at c.in-Err-LogFailed.ensures in
    rw c.in-Err-LogFailed.field-0-is
    (goes_to _ _ _ _ (rw c.in-Err-LogFailed.field-0-is at c.failed.ensures)
    (goes_read _ _ _ _ c.self.view_is (failed _ _ c.in-Err-LogFailed.note refl refl e.cause.last) e.puts e.later c.requires.level refl refl refl refl refl e.kept))

pub returns-in-Err-DeltaFailed-clause-goes : goal.returns-in-Err-DeltaFailed-clause-goes
returns-in-Err-DeltaFailed-clause-goes g c =
    let e = rw c.in-Err-DeltaFailed.field-0-is at c.in-Err-DeltaFailed.ensures in
    rw c.in-Err-DeltaFailed.field-0-is
    (goes_to _ _ _ _ (rw c.in-Err-DeltaFailed.field-0-is at c.failed-in-Err-DeltaFailed.ensures)
    (goes_read _ _ _ _ c.self.view_is (failed _ _ c.in-Err-DeltaFailed.note refl refl e.cause.0.last) e.puts e.later c.requires.level refl refl refl refl refl e.kept))

pub returns-in-Err-NoMemory-clause-goes : goal.returns-in-Err-NoMemory-clause-goes
returns-in-Err-NoMemory-clause-goes g c =
    let e = c.in-Err-NoMemory.ensures in
    goes_read _ _ _ _ c.self.view_is (quietly _ _ refl refl) e.puts e.later c.requires.level refl refl refl refl refl e.kept

pub returns-in-Err-BadRecord-clause-goes : goal.returns-in-Err-BadRecord-clause-goes
returns-in-Err-BadRecord-clause-goes g c =
    let e = c.in-Err-BadRecord.ensures in
    goes_read _ _ _ _ c.self.view_is (quietly _ _ refl refl) e.puts e.later c.requires.level refl refl refl refl refl e.kept

pub returns-in-Err-BadCheckpoint-clause-goes : goal.returns-in-Err-BadCheckpoint-clause-goes
returns-in-Err-BadCheckpoint-clause-goes g c =
    let e = c.in-Err-BadCheckpoint.ensures in
    goes_read _ _ _ _ c.self.view_is (quietly _ _ refl refl) e.puts e.later c.requires.level refl refl refl refl refl e.kept

-- ---- which deltas are put
