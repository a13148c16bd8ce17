use Rattle.std.proofs.Common.{ap, arith}
use Rattle.std.specs.FinMap.{len}
use Rattle.fluid_lane.proofs.Caused.{caused_earlier}
use Rattle.fluid_lane.proofs.Leaving.{dismissed_nobody, dismissed_more, some_left, all_left, left_by}
use Rattle.fluid_lane.proofs.start.dismiss_all.Goals as goal

pub loop-init : goal.loop-init
loop-init g c = dismissed_nobody c.args.moment (g.K.Keeper.seen c.args.keeper.now) c.args.document.now c.requires.reached

pub loop-preserved : goal.loop-preserved
loop-preserved g c = dismissed_more c.args.moment _ _ _ _ _ _ c.loop.counter c.loop.invariant c.in-Ok.ensures.does

pub dismiss_first-requires-clause-some : goal.dismiss_first-requires-clause-some
dismiss_first-requires-clause-some g c =
    some_left c.args.moment _ _ _ _ c.loop.counter c.loop.invariant (omega (arith, c.loop-test.true, c.count-count.ensures, ap len c.clients.ensures))

pub returns-clause-does : goal.returns-clause-does
returns-clause-does g c =
    (c.loop.invariant.has, all_left c.args.moment _ _ _ _ c.loop.counter c.loop.invariant (omega (arith, c.loop-test.false, c.count-count.ensures, ap len c.clients.ensures)))

pub returns-in-Err-clause-does : goal.returns-in-Err-clause-does
returns-in-Err-clause-does g c =
    let e = c.in-Err.ensures in
    left_by c.args.moment _ _ _ _ _ _ c.loop.counter c.in-Err.fault c.loop.invariant (omega (arith, c.loop-test.true, c.count-count.ensures, ap len c.clients.ensures)) e.later e.reads e.does

pub returns-in-Err-clause-cause : goal.returns-in-Err-clause-cause
returns-in-Err-clause-cause g c = caused_earlier _ _ _ c.in-Err.fault c.loop.invariant.has.later c.in-Err.ensures.cause
