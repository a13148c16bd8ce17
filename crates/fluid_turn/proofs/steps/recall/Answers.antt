use Rattle.std.proofs.Common.{rules}
use Rattle.fluid_turn.proofs.Keeps.{recalls}
use Rattle.fluid_turn.proofs.steps.recall.Goals as goal

pub load-requires : goal.load-requires
load-requires g c = (search rules, search rules, recalls _ _ _ _ _ c.requires.seat _)
