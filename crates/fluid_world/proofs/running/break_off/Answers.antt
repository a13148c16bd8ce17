use Rattle.std.proofs.Common.{ap, subst, Err}
use Rattle.fluid_pipe.specs.Output.{HasFailed}
use Rattle.fluid_world.specs.Taking.{HasStopped}
use Rattle.fluid_world.proofs.Ended.{same_err, refused_cause, read_cause, write_cause, memory_cause, failed_cause, refused_writes, interrupted_writes, cut_writes, short_writes, failed_writes, halted_ends}
use Rattle.fluid_world.specs.declared.ends.ScriptEnd.TheVariants as end
use Rattle.fluid_world.proofs.running.break_off.Goals as goal

pub returns-in-Refused-clause-ends : goal.returns-in-Refused-clause-ends
returns-in-Refused-clause-ends g c = λ first before input start source sink ran cause. refused_cause input start source sink (Err c.args.stop) c.in-Refused.number c.in-Refused.refusal (same_err c.args.stop _ c.in-Refused.is) cause

pub returns-in-Refused-clause-writes : goal.returns-in-Refused-clause-writes
returns-in-Refused-clause-writes g c = λ w load input start source sink good speaks finished failed.
    refused_writes w load input start source c.args.script.now speaks sink _ (Err c.args.stop) c.in-Refused.number c.in-Refused.refusal (same_err c.args.stop _ c.in-Refused.is) finished (ap (λ why. end.BadLine c.in-Refused.number why) c.why_of.ensures)

pub returns-in-ReadFault-clause-ends : goal.returns-in-ReadFault-clause-ends
returns-in-ReadFault-clause-ends g c = λ first before input start source sink ran cause. read_cause input start source sink (Err c.args.stop) (same_err c.args.stop _ c.in-ReadFault.is) cause

pub returns-in-ReadFault-clause-writes : goal.returns-in-ReadFault-clause-writes
returns-in-ReadFault-clause-writes g c = λ w load input start source sink good speaks finished failed.
    interrupted_writes w load input start source c.args.script.now speaks sink (Err c.args.stop) (same_err c.args.stop _ c.in-ReadFault.is) finished

pub returns-in-WriteFault-clause-ends : goal.returns-in-WriteFault-clause-ends
returns-in-WriteFault-clause-ends g c = λ first before input start source sink ran cause. write_cause input start source sink (Err c.args.stop) (same_err c.args.stop _ c.in-WriteFault.is) cause

pub returns-in-WriteFault-clause-writes : goal.returns-in-WriteFault-clause-writes
returns-in-WriteFault-clause-writes g c = λ w load input start source sink good speaks finished failed.
    cut_writes w load input start source c.args.script.now speaks sink (Err c.args.stop) (same_err c.args.stop _ c.in-WriteFault.is) finished

pub returns-in-NoMemory-clause-ends : goal.returns-in-NoMemory-clause-ends
returns-in-NoMemory-clause-ends g c = λ first before input start source sink ran cause. memory_cause input start source sink (Err c.args.stop) (same_err c.args.stop _ c.in-NoMemory.is) cause

pub returns-in-NoMemory-clause-writes : goal.returns-in-NoMemory-clause-writes
returns-in-NoMemory-clause-writes g c = λ w load input start source sink good speaks finished failed.
    short_writes w load input start source c.args.script.now speaks sink (Err c.args.stop) (same_err c.args.stop _ c.in-NoMemory.is) finished

pub returns-in-Failed-clause-ends : goal.returns-in-Failed-clause-ends
returns-in-Failed-clause-ends g c = λ first before input start source sink ran cause.
    halted_ends first before input start source sink c.args.script.now c.halt.new.script c.args.script.now.stop c.halt.result c.halt.ensures.end c.halt.ensures.same.0 c.halt.ensures.same.1 ran
    (failed_cause input start source sink (Err c.args.stop) _ (same_err c.args.stop _ c.in-Failed.is) cause)

pub returns-in-Failed-clause-writes : goal.returns-in-Failed-clause-writes
returns-in-Failed-clause-writes g c = λ w load input start source sink good speaks finished failed.
    failed_writes w load input start source c.args.script.now speaks sink c.halt.new.script c.args.script.now.stop c.halt.result (Err c.args.stop) _ (same_err c.args.stop _ c.in-Failed.is) finished c.halt.ensures.end failed

pub halt-requires : goal.halt-requires
halt-requires g c = subst (HasFailed {A = Unit {0}} (λ _. HasStopped c.args.script.now)) (same_err c.args.stop _ c.in-Failed.is) c.requires
