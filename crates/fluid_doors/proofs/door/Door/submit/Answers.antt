use Rattle.std.proofs.Common.{sym, ap, subst, ◌∙◌}
use Rattle.fluid_turn.specs.Entries.{entries}
use Rattle.fluid_lane.specs.Steps.{steps_of, entered_by}
use Rattle.fluid_doors.specs.Passing.{Grows}
use Rattle.fluid_doors.specs.Entering.{Submits}
use Rattle.fluid_doors.proofs.Passes.{grows_by}
use Rattle.fluid_doors.proofs.Tails.{stands_kept}
use Rattle.fluid_doors.proofs.door.Door.submit.Goals as goal

pub close_entered-requires-clause-stands : goal.close_entered-requires-clause-stands
close_entered-requires-clause-stands g c =
    let s = c.take_noted-held.ensures.stands in let a = c.submit-answer.ensures in stands_kept _ _ _ _ _ a.goes s.lane (a.tail _ s) (a.short s.short)

pub returns : goal.returns
returns g c =
    let h = c.take_noted-held in let a = c.submit-answer in let e = c.close_entered.ensures in
    subst (λ r. Grows c.args.pass c.close_entered.result.0 (steps_of (entered_by c.args.raw) r) (Submits c.args.self.now.turn.fixed c.args.raw r)) (sym e.same)
    (grows_by c.args.pass _ _ h.result.place.list (steps_of (entered_by c.args.raw) a.result) _ h.ensures.seat e.pass e.few h.ensures.list
    (subst (λ t. Submits t c.args.raw a.result (entries h.result.place.list)) (h.ensures.fixed ∙ ap (λ d. d.turn.fixed) c.self.view_is) (a.ensures.says _ h.ensures.stands.lane)))
