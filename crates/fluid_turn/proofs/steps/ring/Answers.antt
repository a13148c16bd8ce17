use Rattle.std.proofs.Common.{rules, ◌+◌, ◌%◌, ◌^◌}
use Rattle.fluid_turn.proofs.Keeps.{rings}
use Rattle.fluid_turn.proofs.steps.ring.Goals as goal

pub fetch_add-requires : goal.fetch_add-requires
fetch_add-requires g c = (search rules, search rules, rings _ _ _ _ _ (λ n. (n + 1) % 2 ^ 64) 1 0 (search rules) _)
