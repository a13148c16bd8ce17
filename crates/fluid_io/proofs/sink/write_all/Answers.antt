use Rattle.std.proofs.lemmas.List.{take_rest}
use Rattle.fluid_io.proofs.Writes.{more_written}
use Rattle.fluid_io.proofs.sink.write_all.Goals as goal

-- src/sink.rt:35:5
pub loop-rest-preserved : goal.loop-rest-preserved
loop-rest-preserved g c = rw take_rest
    (more_written _ _ _ _ _ _ c.loop-rest.invariant c.in_ok-count.ensures.does c.in_ok-count.ensures.cause.quiet)
