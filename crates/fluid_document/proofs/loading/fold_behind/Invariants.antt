use Rattle.fluid_document.proofs.Progress.{HasFolded}
use Rattle.fluid_document.proofs.loading.fold_behind.Given as goal

-- the records so far were taken up
abbrev pub invariant-loop-place : goal.invariant-loop-place
invariant-loop-place g l = HasFolded (g.K.Keeper.seen l.initial.keeper) (g.K.Keeper.seen l.keeper) l.initial.document l.document l.place
