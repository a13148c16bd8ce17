use Rattle.fluid_service.proofs.Endings.{HasClosed}
use Rattle.fluid_service.proofs.ending.close_all.Given as goal

-- some of the documents are left
abbrev pub invariant-loop : goal.invariant-loop
invariant-loop g l = HasClosed l.initial.visits.visits l.visits.visits (g.B.Shelves.seen l.initial.shelves) (g.B.Shelves.seen l.shelves)
