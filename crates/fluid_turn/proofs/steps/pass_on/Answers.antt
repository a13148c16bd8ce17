use Rattle.std.proofs.Common.{rules, refl}
use Rattle.fluid_turn.proofs.Keeps.{passes}
use Rattle.fluid_turn.proofs.steps.pass_on.Goals as goal

pub store-requires : goal.store-requires
store-requires g c = (search rules, search rules, passes _ _ _ _ c.args.ticket _ _ refl c.requires.holds.0 (search rules) c.requires.stands)
