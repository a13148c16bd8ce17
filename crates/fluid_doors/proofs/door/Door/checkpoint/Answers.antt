use Rattle.std.proofs.Common.{sym, ap, subst, ◌∙◌}
use Rattle.fluid_turn.specs.Entries.{entries}
use Rattle.fluid_lane.specs.Steps.{steps_of, stored_by}
use Rattle.fluid_doors.specs.Passing.{Grows}
use Rattle.fluid_doors.specs.Storing.{Checkpoints}
use Rattle.fluid_doors.proofs.Passes.{grows_by}
use Rattle.fluid_doors.proofs.Tails.{stands_on}
use Rattle.fluid_doors.proofs.door.Door.checkpoint.Goals as goal

pub close_stored-requires-clause-stands : goal.close_stored-requires-clause-stands
close_stored-requires-clause-stands g c = stands_on _ _ _ _ _ _ c.checkpoint-answer.ensures.tail c.checkpoint-answer.ensures.goes c.take_noted-held.ensures.stands

pub returns : goal.returns
returns g c =
    let h = c.take_noted-held in let a = c.checkpoint-answer in let e = c.close_stored.ensures in
    subst (λ r. Grows c.args.pass c.close_stored.result.0 (steps_of stored_by r) (Checkpoints c.args.self.now.turn.fixed r)) (sym e.same)
    (grows_by c.args.pass _ _ h.result.place.list (steps_of stored_by a.result) _ h.ensures.seat e.pass e.few h.ensures.list
    (subst (λ t. Checkpoints t a.result (entries h.result.place.list)) (h.ensures.fixed ∙ ap (λ d. d.turn.fixed) c.self.view_is) (a.ensures.says _ h.ensures.stands.lane)))
