use Rattle.std.proofs.Common.{sym, ap, subst, ◌∙◌}
use Rattle.fluid_turn.specs.Entries.{entries}
use Rattle.fluid_types.specs.declared.entries.Raw.TheVariants.{Report}
use Rattle.fluid_lane.specs.Steps.{steps_of, entered_by}
use Rattle.fluid_doors.specs.Passing.{Grows}
use Rattle.fluid_doors.specs.Entering.{Reports}
use Rattle.fluid_doors.proofs.Passes.{grows_by}
use Rattle.fluid_doors.proofs.Tails.{stands_on}
use Rattle.fluid_doors.proofs.door.Door.report.Goals as goal

pub close_entered-requires-clause-stands : goal.close_entered-requires-clause-stands
close_entered-requires-clause-stands g c = stands_on _ _ _ _ _ _ c.conclude-answer.ensures.tail c.conclude-answer.ensures.goes c.take_noted-held.ensures.stands

pub returns : goal.returns
returns g c =
    let h = c.take_noted-held in let a = c.conclude-answer in let e = c.close_entered.ensures in
    let raw = Report c.args.summary c.args.found c.args.moment in
    subst (λ r. Grows c.args.pass c.close_entered.result.0 (steps_of (entered_by raw) r) (Reports c.args.self.now.turn.fixed raw r)) (sym e.same)
    (grows_by c.args.pass _ _ h.result.place.list (steps_of (entered_by raw) a.result) _ h.ensures.seat e.pass e.few h.ensures.list
    (subst (λ t. Reports t raw a.result (entries h.result.place.list)) (h.ensures.fixed ∙ ap (λ t. t.fixed) c.turn.ensures) (a.ensures.says _ h.ensures.stands.lane)))
