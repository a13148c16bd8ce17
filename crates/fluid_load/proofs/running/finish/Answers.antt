use Rattle.std.proofs.Common.{refl, sym, subst}
use Rattle.fluid_workload.specs.Summary.{summary}
use Rattle.fluid_transcript.specs.Transcript.{written}
use Rattle.fluid_load.specs.Standing.{LeadsTo}
use Rattle.fluid_load.specs.Running.{Finishes, FinishesBy}
use Rattle.fluid_load.proofs.running.finish.Goals as goal

pub returns-in-Ok-clause-ends : goal.returns-in-Ok-clause-ends
returns-in-Ok-clause-ends g c = subst (λ r. Finishes r (g.K.Sink.seen c.args.output.now) (g.K.Sink.seen c.conclude.new.output) c.conclude.result) (sym c.in-Ok.is) c.conclude.ensures.writes

pub returns-in-Ok-clause-lines : goal.returns-in-Ok-clause-lines
returns-in-Ok-clause-lines g c = λ w leads.
    subst (λ r. FinishesBy r (written (summary w)) (g.K.Sink.seen c.args.output.now) (g.K.Sink.seen c.conclude.new.output) c.conclude.result) (sym c.in-Ok.is) (c.conclude.ensures.lines w (subst (LeadsTo w c.args.working.now) c.in-Ok.is leads))

pub returns-in-Err-clause-ends : goal.returns-in-Err-clause-ends
returns-in-Err-clause-ends g c = subst (λ r. Finishes r (g.K.Sink.seen c.args.output.now) (g.K.Sink.seen c.args.output.now) c.end_for.result) (sym c.in-Err.is) (c.end_for.ensures, refl)

pub returns-in-Err-clause-lines : goal.returns-in-Err-clause-lines
returns-in-Err-clause-lines g c = λ w leads.
    subst (λ r. FinishesBy r (written (summary w)) (g.K.Sink.seen c.args.output.now) (g.K.Sink.seen c.args.output.now) c.end_for.result) (sym c.in-Err.is) (subst (LeadsTo w c.args.working.now) c.in-Err.is leads)
