use Rattle.std.proofs.Common.{rules}
use Rattle.fluid_turn.proofs.Keeps.{rings}
use Rattle.fluid_turn.proofs.steps.draw_sleeping.Goals as goal

pub store-requires : goal.store-requires
store-requires g c = (search rules, search rules, rings _ _ _ _ _ (λ n. 1) 1 0 (search rules) _)
