use Rattle.std.proofs.Common.{rules, ◌+◌, ◌%◌, ◌^◌}
use Rattle.fluid_turn.proofs.Keeps.{rings}
use Rattle.fluid_turn.proofs.steps.rouse.Goals as goal

pub store-requires : goal.store-requires
store-requires g c = (search rules, search rules, rings _ _ _ _ _ (λ n. 0) 0 0 (search rules) _)

pub fetch_add-requires : goal.fetch_add-requires
fetch_add-requires g c = (search rules, search rules, rings _ _ _ _ _ (λ n. (n + 1) % 2 ^ 64) 1 0 (search rules) _)
