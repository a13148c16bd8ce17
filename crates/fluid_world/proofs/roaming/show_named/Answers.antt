use Rattle.std.specs.FinMap.{get}
use Rattle.std.proofs.Common.{sym, ◌∙◌}
use Rattle.fluid_world.proofs.Stepped.{shows_roamer, shows_holder}
use Rattle.fluid_world.proofs.roaming.show_named.Goals as goal

pub show_roamer-requires-clause-accepted : goal.show_roamer-requires-clause-accepted
show_roamer-requires-clause-accepted g c = shows_roamer (get c.args.names.now.table.values c.args.name.now) (sym c.is_roamer.ensures ∙ c.if-is_roamer.true)

pub show_as-requires-clause-accepted : goal.show_as-requires-clause-accepted
show_as-requires-clause-accepted g c = shows_holder (get c.args.names.now.table.values c.args.name.now) c.requires.accepted (sym c.is_roamer.ensures ∙ c.if-is_roamer.false)
