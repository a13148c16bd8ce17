use Rattle.std.proofs.Common.{rules}
use Rattle.fluid_turn.proofs.Keeps.{adds}
use Rattle.fluid_turn.proofs.steps.enter.Goals as goal

pub store-requires : goal.store-requires
store-requires g c =
    (search rules, search rules, adds _ _ _ _ _ c.requires.holds.0 _ _ c.args.entry.now _ c.requires.seat.0 c.requires.seat.1 c.requires.holds.1 c.requires.counted c.requires.stood)
