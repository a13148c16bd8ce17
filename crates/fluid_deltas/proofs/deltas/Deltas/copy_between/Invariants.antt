use Rattle.fluid_deltas.proofs.Slices.{HasCopied}
use Rattle.fluid_deltas.proofs.deltas.Deltas.copy_between.Given as goal

-- the messages so far were copied
abbrev pub invariant-loop-place : goal.invariant-loop-place
invariant-loop-place l = HasCopied l.self l.first l.end l.place l.initial.messages.items l.messages.items
