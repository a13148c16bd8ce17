use Rattle.std.proofs.Common.{◌<◌, arith}
use Rattle.std.specs.FinMap.{len}
use Rattle.fluid_lane.proofs.Quiet.{quiet_more, quiet_all, silent_here}
use Rattle.fluid_lane.proofs.silent.first_silent.Goals as goal

pub returns-then-heard_at-before-clause-place : goal.returns-then-heard_at-before-clause-place
returns-then-heard_at-before-clause-place c =
    let lt : c.loop-place.place < len c.args.clients.now.rows = omega (arith, c.loop-place-test.true, c.count-count.ensures) in
    (lt, silent_here c.args.moment c.args.silence c.args.clients.now.rows c.loop-place.place c.heard_at.result c.loop-place.invariant lt c.heard_at.ensures (omega (arith, c.if-heard_at-before.true, c.saturating_sub-before.ensures)))

pub loop-place-preserved : goal.loop-place-preserved
loop-place-preserved c =
    quiet_more c.args.moment c.args.silence c.args.clients.now.rows c.loop-place.place c.heard_at.result c.loop-place.invariant (omega (arith, c.loop-place-test.true, c.count-count.ensures)) c.heard_at.ensures
    (omega (arith, c.if-heard_at-before.false, c.saturating_sub-before.ensures))

pub returns-clause-none : goal.returns-clause-none
returns-clause-none c = λ _. quiet_all c.args.moment c.args.silence c.args.clients.now.rows c.loop-place.place c.loop-place.invariant (omega (arith, c.loop-place-test.false, c.count-count.ensures))
