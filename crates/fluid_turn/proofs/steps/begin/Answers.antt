use Rattle.std.proofs.Common.{rules}
use Rattle.fluid_turn.proofs.Keeps.{begins}
use Rattle.fluid_turn.proofs.steps.begin.Goals as goal

pub load-requires : goal.load-requires
load-requires g c = (search rules, search rules, begins _ _ _ _ _ c.requires.began _ c.requires.opens)
