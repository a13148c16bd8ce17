use Rattle.std.proofs.Common.{rules, refl}
use Rattle.fluid_turn.proofs.Keeps.{draws}
use Rattle.fluid_turn.proofs.steps.draw_next.Goals as goal

pub compare_exchange-found-requires : goal.compare_exchange-found-requires
compare_exchange-found-requires g c = (search rules, search rules, draws _ _ _ _ _ _ _ (search rules) refl)
