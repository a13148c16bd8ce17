use Rattle.std.proofs.Common.{rules}
use Rattle.fluid_turn.proofs.Keeps.{rings}
use Rattle.fluid_turn.proofs.steps.draw.Goals as goal

pub store-requires : goal.store-requires
store-requires g c = (search rules, search rules, rings _ _ _ _ _ (λ n. 1) 1 0 (search rules) _)

pub store-requires-2 : goal.store-requires-2
store-requires-2 g c = (search rules, search rules, rings _ _ _ _ _ (λ n. 1) 1 0 (search rules) _)
