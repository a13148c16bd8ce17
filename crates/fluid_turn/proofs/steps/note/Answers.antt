use Rattle.std.proofs.Common.{rules}
use Rattle.fluid_turn.proofs.Keeps.{notes}
use Rattle.fluid_turn.proofs.steps.note.Goals as goal

pub load-requires : goal.load-requires
load-requires g c = (search rules, search rules, notes _ _ g.W.Picks.tells c.requires.tells _ _ _ c.requires.seat _ c.requires.began _)
