use Rattle.std.proofs.Common.{◌∙◌, sym, ap, subst}
use Rattle.std.specs.Arc.{arc_value}
use Rattle.fluid_doors.specs.Terms.{Doorway}
use Rattle.fluid_connection.specs.Talked.{visited}
use Rattle.fluid_connection.specs.Leaving.{EntersBy}
use Rattle.fluid_connection.proofs.Collections.{comes_back}
use Rattle.fluid_connection.proofs.Leavings.{leaves_back, same_entry}
use Rattle.fluid_connection.proofs.leaving.enter_leave.Goals as goal

pub enter-pass-requires-clause-pass : goal.enter-pass-requires-clause-pass
enter-pass-requires-clause-pass g c = c.into_parts-door.ensures.together ∙ ap (λ (d : Doorway). d.turn) (sym c.deref.ensures)

pub new-requires : goal.new-requires
new-requires g c = c.enter-pass.ensures.turn ∙ ap (λ (d : Doorway). d.turn) c.deref.ensures

pub returns-clause-back : goal.returns-clause-back
returns-clause-back g c =
    comes_back c.args.visit c.new.result (arc_value c.into_parts-door.result.0) c.enter-pass.result.0 c.into_parts-door.ensures.parts.0 c.new.ensures c.enter-pass.ensures.few

pub returns-clause-does : goal.returns-clause-does
returns-clause-does g c = λ raw is.
    subst (λ r. EntersBy (visited c.args.visit) (visited c.new.result) r c.enter-pass.result.1) (same_entry c.entry_of-raw.result raw (sym c.entry_of-raw.ensures.is ∙ is))
    (leaves_back c.args.visit c.new.result c.deref.result.now (arc_value c.into_parts-door.result.0) c.into_parts-door.result.1 c.enter-pass.result.0 c.entry_of-raw.result c.enter-pass.result.1
    c.deref.ensures c.into_parts-door.ensures.parts.0 c.into_parts-door.ensures.parts.1 c.new.ensures c.enter-pass.ensures.does)
