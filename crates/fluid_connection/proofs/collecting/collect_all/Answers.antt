use Rattle.std.proofs.Common.{◌≡◌, ◌∙◌, ◌≤◌, true, sym, ap, subst}
use Rattle.std.specs.Arc.{arc_value}
use Rattle.fluid_doors.specs.Terms.{Doorway}
use Rattle.fluid_doors.specs.Passing.{APass}
use Rattle.fluid_talk.specs.Talking.{number_behind_last}
use Rattle.fluid_connection.proofs.Collections.{collects_back, comes_back}
use Rattle.fluid_connection.proofs.collecting.collect_all.Goals as goal

pub collect_slices-pass-requires-clause-pass : goal.collect_slices-pass-requires-clause-pass
collect_slices-pass-requires-clause-pass g c = c.into_parts-door.ensures.together ∙ ap (λ (d : Doorway). d.turn) (sym c.deref.ensures)

pub collect_slices-pass-requires-clause-within : goal.collect_slices-pass-requires-clause-within
collect_slices-pass-requires-clause-within g c =
    subst (λ (p : APass). p.turn.fixed.told ≡ true → c.args.next ≤ number_behind_last p.seen) (sym c.into_parts-door.ensures.parts.1) c.requires.within

pub new-requires : goal.new-requires
new-requires g c = c.collect_slices-pass.ensures.turn ∙ ap (λ (d : Doorway). d.turn) c.deref.ensures

pub returns-clause-back : goal.returns-clause-back
returns-clause-back g c =
    comes_back c.args.visit c.new.result (arc_value c.into_parts-door.result.0) c.collect_slices-pass.result.0 c.into_parts-door.ensures.parts.0 c.new.ensures c.collect_slices-pass.ensures.few

pub returns-clause-does : goal.returns-clause-does
returns-clause-does g c =
    collects_back c.args.visit c.new.result c.deref.result.now (arc_value c.into_parts-door.result.0) c.into_parts-door.result.1 c.collect_slices-pass.result.0 c.args.next c.collect_slices-pass.result.1
    c.deref.ensures c.into_parts-door.ensures.parts.0 c.into_parts-door.ensures.parts.1 c.new.ensures c.collect_slices-pass.ensures.does
