use Rattle.std.proofs.Common.{◌-◌}
use Rattle.fluid_deltas.specs.Flushes.{lacking_up_to}
use Rattle.fluid_deltas.proofs.Putting.{HasPut}
use Rattle.fluid_deltas.proofs.deltas.Deltas.put_up_to.Given as goal

-- the messages so far were put
abbrev pub invariant-loop-place : goal.invariant-loop-place
invariant-loop-place g l =
    HasPut (g.K.Keeper.seen l.initial.keeper) (g.K.Keeper.seen l.keeper) (lacking_up_to l.self (g.K.Keeper.seen l.initial.keeper).deltas l.end) (l.place - l.kept)
