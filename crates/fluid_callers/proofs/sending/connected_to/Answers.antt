use Rattle.std.proofs.Common.{ap}
use Rattle.fluid_transcript.specs.Connections.{connects}
use Rattle.fluid_callers.proofs.Sent.{not_connect, passed_act, found_act, no_act}
use Rattle.fluid_callers.proofs.sending.connected_to.Goals as goal

pub loop-act-preserved : goal.loop-act-preserved
loop-act-preserved c =
    passed_act c.args.acts.now c.loop-act.act-index c.act-item.result c.loop-act-test.true c.act-item.is (not_connect c.act-item.result c.in_default.not-Connect) c.loop-act.invariant

pub returns-in-Connect : goal.returns-in-Connect
returns-in-Connect c =
    found_act c.args.acts.now c.loop-act.act-index c.act-item.result c.in-Connect.name c.loop-act-test.true c.act-item.is (ap connects c.in-Connect.is) c.loop-act.invariant

pub returns : goal.returns
returns c = no_act c.args.acts.now c.loop-act.act-index c.loop-act-test.false c.loop-act.invariant
