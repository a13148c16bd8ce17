use Rattle.std.proofs.Common.{length}
use Rattle.fluid_tree.proofs.Rest.{IsReading}
use Rattle.fluid_tree.proofs.reading.read_entries.Given as goal

abbrev pub invariant-loop-rest : goal.invariant-loop-rest
invariant-loop-rest l = IsReading l.total l.names.seen l.entries.items l.rest l.body

abbrev pub decreases-loop-rest : goal.decreases-loop-rest
decreases-loop-rest l = length l.rest
