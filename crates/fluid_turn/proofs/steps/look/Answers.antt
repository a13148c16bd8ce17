use Rattle.std.proofs.Common.{rules}
use Rattle.fluid_turn.proofs.Keeps.{looks}
use Rattle.fluid_turn.proofs.steps.look.Goals as goal

pub load-requires : goal.load-requires
load-requires g c = (search rules, search rules, looks _ _ g.W.Picks.tells c.requires.tells _ _ c.args.ticket _ c.requires.waits.0 c.requires.waits.1)
