use Rattle.std.proofs.Common.{refl, sym, ap, subst}
use Rattle.fluid_io.specs.Causes.{Tells}
use Rattle.fluid_types.specs.Ledger.{order}
use Rattle.fluid_deltas.specs.Flushes.{AreAll}
use Rattle.fluid_document.specs.Kept.{IsPrinted}
use Rattle.fluid_lane.specs.Steps.{ledger}
use Rattle.fluid_lane.specs.Standing.{LaneStands}
use Rattle.fluid_lane.proofs.Stands.{goes_to, goes_same, failed, quietly, stored_beside, stored_list, beside_of}
use Rattle.fluid_lane.proofs.lane.Lane.store.Goals as goal

pub returns-in-Ok-clause-terms : goal.returns-in-Ok-clause-terms
returns-in-Ok-clause-terms g c =
    let e = c.in-Ok.ensures in
    stored_beside _ _ _ c.in-Ok.number _ e.does.1 e.cause.later refl refl refl refl refl c.self.view_is

pub returns-in-Ok-clause-goes : goal.returns-in-Ok-clause-goes
returns-in-Ok-clause-goes g c = λ l is all h.
    let e = c.in-Ok.ensures in
    stored_list _ _ c.in-Ok.number c.args.text.now l (stored_beside _ _ _ c.in-Ok.number _ e.does.1 e.cause.later refl refl refl refl refl refl) (subst (λ s. IsPrinted s.entries c.args.text.now) (sym c.self.view_is) is) e.does.1 refl refl refl
    (subst (λ s. Tells s.keeping.content (AreAll (order (ledger l)))) (sym c.self.view_is) all) (subst (λ s. LaneStands s l) (sym c.self.view_is) h)

pub returns-in-Err-Failed-clause-terms : goal.returns-in-Err-Failed-clause-terms
returns-in-Err-Failed-clause-terms g c =
    let e = rw c.in-Err-Failed.field-0-is at c.in-Err-Failed.ensures in
    beside_of _ _ _ _ (goes_to _ _ _ _ c.failed.ensures
    (goes_same _ _ _ (failed _ _ c.note_of-note.result refl refl (ap (λ n. n.after) c.note_of-note.ensures)) e.does e.cause.later refl refl refl refl refl)) c.self.view_is

pub returns-in-Err-Failed-clause-goes : goal.returns-in-Err-Failed-clause-goes
returns-in-Err-Failed-clause-goes g c = λ l is all h.
    let e = rw c.in-Err-Failed.field-0-is at c.in-Err-Failed.ensures in
    (goes_to _ _ _ _ c.failed.ensures
    (goes_same _ _ _ (failed _ _ c.note_of-note.result refl refl (ap (λ n. n.after) c.note_of-note.ensures)) e.does e.cause.later refl refl refl refl refl)).list l (subst (λ s. LaneStands s l) (sym c.self.view_is) h)

pub returns-in-Err-NoMemory-clause-terms : goal.returns-in-Err-NoMemory-clause-terms
returns-in-Err-NoMemory-clause-terms g c =
    let e = rw c.in-Err-NoMemory.field-0-is at c.in-Err-NoMemory.ensures in
    beside_of _ _ _ _ (goes_same _ _ _ (quietly _ _ refl refl) e.does e.cause.later refl refl refl refl refl) c.self.view_is

pub returns-in-Err-NoMemory-clause-goes : goal.returns-in-Err-NoMemory-clause-goes
returns-in-Err-NoMemory-clause-goes g c = λ l is all h.
    let e = rw c.in-Err-NoMemory.field-0-is at c.in-Err-NoMemory.ensures in
    (goes_same _ _ _ (quietly _ _ refl refl) e.does e.cause.later refl refl refl refl refl).list l (subst (λ s. LaneStands s l) (sym c.self.view_is) h)
