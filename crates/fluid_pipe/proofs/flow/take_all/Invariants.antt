use Rattle.std.proofs.Common.{◌-◌}
use Rattle.fluid_pipe.specs.Progress.{Going, IsUnderWay}
use Rattle.fluid_pipe.proofs.flow.take_all.Given as goal

-- how far the run has come since it began
abbrev pub invariant-loop-lines : goal.invariant-loop-lines
invariant-loop-lines g l =
    Going (g.T.Taker.within l.taker) (g.S.Source.seen l.fn.input) (g.K.Sink.seen l.fn.output) l.lines (g.S.Source.seen l.input) (g.K.Sink.seen l.output)
    × g.T.Taker.follows l.fn.taker l.taker
    × IsUnderWay (g.T.Taker.stands l.fn.taker) (g.T.Taker.stands l.taker) (g.S.Source.seen l.fn.input) (g.K.Sink.seen l.fn.output) l.lines l.waiting.items
    (g.S.Source.seen l.input) (g.K.Sink.seen l.output)

-- an input has at most so many lines
abbrev pub decreases-loop-lines : goal.decreases-loop-lines
decreases-loop-lines g l = 16777217 - l.lines.count
