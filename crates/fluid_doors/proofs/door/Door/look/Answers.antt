use Rattle.std.proofs.Common.{sym, ap, subst, ◌∙◌}
use Rattle.fluid_turn.specs.Entries.{entries}
use Rattle.fluid_lane.specs.Steps.{range_steps}
use Rattle.fluid_doors.specs.Passing.{Grows}
use Rattle.fluid_doors.specs.Looking.{Looks}
use Rattle.fluid_doors.proofs.Passes.{grows_by}
use Rattle.fluid_doors.proofs.Tails.{stands_on}
use Rattle.fluid_doors.proofs.door.Door.look.Goals as goal

pub close_read-requires-clause-stands : goal.close_read-requires-clause-stands
close_read-requires-clause-stands g c = stands_on _ _ _ _ _ _ c.look-answer.ensures.tail c.look-answer.ensures.goes c.take_noted-held.ensures.stands

pub returns : goal.returns
returns g c =
    let h = c.take_noted-held in let a = c.look-answer in let e = c.close_read.ensures in
    subst (λ r. Grows c.args.pass c.close_read.result.0 (range_steps r) (Looks c.args.self.now.turn.fixed c.args.act.now r)) (sym e.same)
    (grows_by c.args.pass _ _ h.result.place.list (range_steps a.result) _ h.ensures.seat e.pass e.few h.ensures.list
    (subst (λ t. Looks t c.args.act.now a.result (entries h.result.place.list)) (h.ensures.fixed ∙ ap (λ d. d.turn.fixed) c.self.view_is) (a.ensures.says _ h.ensures.stands.lane)))
