use Rattle.std.proofs.Common.{◌∙◌, subst}
use Rattle.fluid_pipe.specs.Output.{Finished, HasEndCause, HasFailed}
use Rattle.fluid_transcript.specs.Transcript.{behind}
use Rattle.fluid_world.specs.Taking.{HasStopped, ScriptStands, StopsAt, means}
use Rattle.fluid_world.proofs.Ended.{none_mapped, ok_cause, ok_writes}
use Rattle.fluid_world.proofs.running.finish.Goals as goal

pub returns-in-Ok-clause-ends : goal.returns-in-Ok-clause-ends
returns-in-Ok-clause-ends g c = λ first before input start source le ran cause.
    c.conclude.ensures.ends first before input start source le ran (ok_cause input start source (g.K.Sink.seen c.args.output.now) c.args.ended _ c.in-Ok.is cause)

pub returns-in-Ok-clause-writes : goal.returns-in-Ok-clause-writes
returns-in-Ok-clause-writes g c = λ w input start source good speaks finished failed.
    ok_writes w _ input start source c.args.script.now (none_mapped _ _ ∙ speaks) (g.K.Sink.seen c.args.output.now) (g.K.Sink.seen c.conclude.new.output) c.conclude.new.script c.conclude.result c.args.ended _ c.in-Ok.is finished
    c.conclude.ensures.writes

pub returns-in-Err-clause-ends : goal.returns-in-Err-clause-ends
returns-in-Err-clause-ends g c = λ first before input start source le ran cause.
    c.break_off.ensures.ends first before input start source (g.K.Sink.seen c.args.output.now) ran (subst (HasEndCause input start source (g.K.Sink.seen c.args.output.now)) c.in-Err.is cause)

pub returns-in-Err-clause-writes : goal.returns-in-Err-clause-writes
returns-in-Err-clause-writes g c = λ w input start source good speaks finished failed.
    let s = c.args.script.now in
    c.break_off.ensures.writes w _ input start source (g.K.Sink.seen c.args.output.now) good (none_mapped _ _ ∙ speaks)
    (subst (Finished (means s.speaks s.lanes.limits w) (λ lines. ScriptStands s (behind s.lanes.limits w lines)) input start source (g.K.Sink.seen c.args.output.now)) c.in-Err.is finished)
    (subst (HasFailed {A = Unit {0}} (λ _. StopsAt s.lanes.limits w s.stop input.left)) c.in-Err.is failed)

pub break_off-requires : goal.break_off-requires
break_off-requires g c = subst (HasFailed {A = Unit {0}} (λ _. HasStopped c.args.script.now)) c.in-Err.is c.requires.halted
