use Rattle.std.proofs.Common.{arith}
use Rattle.fluid_lanes.proofs.Shelved.{at_first, one_back, at_last}
use Rattle.fluid_lanes.proofs.closing.close_all.Goals as goal

pub loop-init : goal.loop-init
loop-init g c = at_first _ _ c.requires

pub loop-preserved : goal.loop-preserved
loop-preserved g c = one_back c.loop.counter _ _ _ _ _ _ c.loop.invariant c.close_last.ensures (omega (arith, c.loop-test.true, c.len-count.ensures))

pub close_last-requires : goal.close_last-requires
close_last-requires g c = c.loop.invariant.shelved

pub returns : goal.returns
returns g c = at_last _ _ _ _ c.loop.counter c.loop.invariant (omega (arith, c.loop-test.false, c.len-count.ensures))
