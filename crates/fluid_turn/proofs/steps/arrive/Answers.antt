use Rattle.std.proofs.Common.{rules}
use Rattle.fluid_turn.proofs.Keeps.{arrives}
use Rattle.fluid_turn.proofs.steps.arrive.Goals as goal

pub load_new_seat-token-requires : goal.load_new_seat-token-requires
load_new_seat-token-requires g c = (search rules, arrives _ _ g.W.Picks.tells c.requires.tells _ c.requires.began _)
