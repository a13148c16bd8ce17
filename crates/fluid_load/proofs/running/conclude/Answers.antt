use Rattle.std.proofs.Common.{subst}
use Rattle.fluid_load.specs.Running.{SaysAll}
use Rattle.fluid_load.proofs.running.conclude.Goals as goal

pub returns-in-Ok-clause-lines : goal.returns-in-Ok-clause-lines
returns-in-Ok-clause-lines g c = λ w goes.
    subst (λ b. SaysAll b (g.K.Sink.seen c.args.output.now) (g.K.Sink.seen c.write.new.output) c.write.result) (c.in-Ok.ensures.lines w goes) c.write.ensures.says
