use Rattle.std.proofs.Common.{sym, ap, subst, ◌∙◌}
use Rattle.std.specs.Prelude.{IfOk}
use Rattle.fluid_turn.specs.Entries.{entries}
use Rattle.fluid_lane.specs.Steps.{range_steps}
use Rattle.fluid_doors.specs.Passing.{Grows}
use Rattle.fluid_doors.specs.Collecting.{Collects, IsEventUnder, gathered}
use Rattle.fluid_doors.proofs.Passes.{grows_by}
use Rattle.fluid_doors.proofs.Tails.{stands_anew}
use Rattle.fluid_doors.proofs.door.Door.collect.Goals as goal

pub close_read-requires-clause-stands : goal.close_read-requires-clause-stands
close_read-requires-clause-stands g c =
    let s = c.take_noted-held.ensures.stands in stands_anew _ _ _ _ _ c.collect-answer.ensures.goes s.lane (c.collect-answer.ensures.tail _ s) (c.collect-answer.ensures.short s.short)

pub returns-clause-event : goal.returns-clause-event
returns-clause-event g c =
    subst (λ r. IfOk r (IsEventUnder c.args.self.now.name)) (sym c.close_read.ensures.same)
    (subst (λ n. IfOk c.collect-answer.result (IsEventUnder n)) (ap (λ d. d.name) c.self.view_is) c.collect-answer.ensures.event)

pub returns-clause-does : goal.returns-clause-does
returns-clause-does g c =
    let h = c.take_noted-held in let a = c.collect-answer in let e = c.close_read.ensures in
    subst (λ r. Grows c.args.pass c.close_read.result.0 (range_steps r) (Collects gathered c.args.self.now.turn.fixed c.args.cursor.now.next c.args.most r)) (sym e.same)
    (grows_by c.args.pass _ _ h.result.place.list (range_steps a.result) _ h.ensures.seat e.pass e.few h.ensures.list
    (subst (λ t. Collects gathered t c.args.cursor.now.next c.args.most a.result (entries h.result.place.list)) (h.ensures.fixed ∙ ap (λ d. d.turn.fixed) c.self.view_is) (a.ensures.says _ h.ensures.stands)))
