use Rattle.std.proofs.Common.{length}
use Rattle.fluid_io.proofs.Writes.{IsWritten}
use Rattle.fluid_io.proofs.sink.write_all.Given as goal

abbrev pub invariant-loop-rest : goal.invariant-loop-rest
invariant-loop-rest g l = IsWritten l.bytes l.rest (g.K.Sink.seen l.initial.sink) (g.K.Sink.seen l.sink)

abbrev pub decreases-loop-rest : goal.decreases-loop-rest
decreases-loop-rest g l = length l.rest
