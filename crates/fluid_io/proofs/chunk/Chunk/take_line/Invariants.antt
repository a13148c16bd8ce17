use Rattle.std.proofs.Common.{◌+◌, ◌-◌, vec_len}
use Rattle.fluid_io.proofs.Collecting.{IsCollected}
use Rattle.fluid_io.proofs.chunk.Chunk.take_line.Given as goal

abbrev pub invariant-loop-self : goal.invariant-loop-self
invariant-loop-self g l = IsCollected l.limit l.initial.self (g.S.Source.seen l.initial.source) l.self (g.S.Source.seen l.source) l.line.items

abbrev pub decreases-loop-self : goal.decreases-loop-self
decreases-loop-self g l = l.limit + 2 - vec_len l.line
