use Rattle.fluid_lane.proofs.Leaving.{HasDismissed}
use Rattle.fluid_lane.proofs.start.dismiss_all.Given as goal

-- one has left for each turn
abbrev pub invariant-loop : goal.invariant-loop
invariant-loop g l = HasDismissed l.fn.moment (g.K.Keeper.seen l.initial.keeper) (g.K.Keeper.seen l.keeper) l.initial.document l.document l.counter
