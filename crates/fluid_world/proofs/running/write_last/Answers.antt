use Rattle.std.proofs.Common.{◌∙◌}
use Rattle.fluid_world.proofs.Ended.{last_written, last_unwritten}
use Rattle.fluid_world.proofs.running.write_last.Goals as goal

pub returns-in-Ok-write_out : goal.returns-in-Ok-write_out
returns-in-Ok-write_out g c =
    last_written c.args.line.now c.as_slice.result.now (g.K.Sink.seen c.args.output.now) (g.K.Sink.seen c.write_out.new.sink) (c.as_slice.ensures ∙ c.in-Ok.ensures) c.in-Ok-write_out.ensures.cause.quiet c.in-Ok-write_out.ensures.does

pub returns-in-Ok : goal.returns-in-Ok
returns-in-Ok g c =
    last_unwritten c.args.line.now c.as_slice.result.now (g.K.Sink.seen c.args.output.now) (g.K.Sink.seen c.write_out.new.sink) (c.as_slice.ensures ∙ c.in-Ok.ensures) c.in-Err-write_out.ensures.cause.failed c.in-Err-write_out.ensures.does
