use Rattle.std.proofs.Common.{refl, ap}
use Rattle.fluid_lane.proofs.Stands.{goes_from, goes_to, goes_cut, goes_same, quietly, failed}
use Rattle.fluid_lane.proofs.lane.Lane.settle.Goals as goal

pub returns-in-Ok-clause-goes : goal.returns-in-Ok-clause-goes
returns-in-Ok-clause-goes g c =
    goes_from _ _ _ _ c.self.view_is (goes_cut _ _ _ c.entered.result (quietly _ _ refl refl) c.entered.ensures.is c.in-Ok.ensures.does c.in-Ok.ensures.cause.later refl refl refl refl refl)

pub returns-in-Err-clause-goes : goal.returns-in-Err-clause-goes
returns-in-Err-clause-goes g c =
    goes_to _ _ _ _ c.failed.ensures
    (goes_from _ _ _ _ c.self.view_is
    (goes_same _ _ _ (failed _ _ c.note_of-note.result refl refl (ap (λ n. n.after) c.note_of-note.ensures)) c.in-Err.ensures.does c.in-Err.ensures.cause.later refl refl refl refl refl))
