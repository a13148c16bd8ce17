use Rattle.std.proofs.Common.{rules}
use Rattle.fluid_turn.proofs.Keeps.{cuts}
use Rattle.fluid_turn.proofs.steps.fork.Goals as goal

pub split_seat-second-requires : goal.split_seat-second-requires
split_seat-second-requires g c = (search rules, search rules, cuts _ _ _ _)
