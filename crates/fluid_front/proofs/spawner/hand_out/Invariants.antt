use Rattle.fluid_front.proofs.Served.{IsServed}
use Rattle.fluid_front.proofs.spawner.hand_out.Given as goal

abbrev pub invariant-loop-served : goal.invariant-loop-served
invariant-loop-served g l = IsServed l.served (g.F.Front.seen l.fn.front) (g.F.Front.seen l.front)
