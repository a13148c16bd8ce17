use Rattle.fluid_lanes.proofs.Shelved.{HasClosed}
use Rattle.fluid_lanes.proofs.closing.close_all.Given as goal

-- one has come back for each turn
abbrev pub invariant-loop : goal.invariant-loop
invariant-loop g l = HasClosed l.counter l.initial.lanes.values l.lanes.values (g.B.Shelves.seen l.initial.shelves) (g.B.Shelves.seen l.shelves)
