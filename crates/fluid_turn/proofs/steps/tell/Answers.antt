use Rattle.std.proofs.Common.{rules}
use Rattle.fluid_turn.proofs.Keeps.{merges}
use Rattle.fluid_turn.proofs.steps.tell.Goals as goal

pub join_seat-requires : goal.join_seat-requires
join_seat-requires g c = (search rules, search rules, search rules, search rules, merges _ _ _ _ _ _ c.requires.bare.0 c.requires.bare.1)
