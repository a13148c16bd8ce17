use Rattle.std.proofs.Common.{sym, ap, subst, ◌∙◌}
use Rattle.fluid_turn.specs.Entries.{entries}
use Rattle.fluid_lane.specs.Steps.{steps_of, restarted_by}
use Rattle.fluid_doors.specs.Passing.{Grows}
use Rattle.fluid_doors.specs.Storing.{Restarts}
use Rattle.fluid_doors.proofs.Passes.{grows_by}
use Rattle.fluid_doors.proofs.Tails.{stands_on}
use Rattle.fluid_doors.proofs.door.Door.restart.Goals as goal

pub close_restarted-requires-clause-stands : goal.close_restarted-requires-clause-stands
close_restarted-requires-clause-stands g c = stands_on _ _ _ _ _ _ c.restart-answer.ensures.tail c.restart-answer.ensures.goes c.take_noted-held.ensures.stands

pub returns : goal.returns
returns g c =
    let h = c.take_noted-held in let a = c.restart-answer in let e = c.close_restarted.ensures in
    subst (λ r. Grows c.args.pass c.close_restarted.result.0 (steps_of (restarted_by c.args.number) r) (Restarts c.args.self.now.turn.fixed c.args.number r)) (sym e.same)
    (grows_by c.args.pass _ _ h.result.place.list (steps_of (restarted_by c.args.number) a.result) _ h.ensures.seat e.pass e.few h.ensures.list
    (subst (λ t. Restarts t c.args.number a.result (entries h.result.place.list)) (h.ensures.fixed ∙ ap (λ d. d.turn.fixed) c.self.view_is) (a.ensures.says _ h.ensures.stands.lane)))
