use Rattle.fluid_deltas.proofs.Reading.{HasRead}
use Rattle.fluid_deltas.proofs.kept.read_deltas.Given as goal

-- the deltas so far were read
abbrev pub invariant-loop-place : goal.invariant-loop-place
invariant-loop-place g l = HasRead (g.K.Keeper.seen l.initial.keeper) (g.K.Keeper.seen l.keeper) l.start l.end l.place l.messages.items
