use Rattle.fluid_front.proofs.Served.{IsServed}
use Rattle.fluid_front.proofs.spawner.fn.serve_in_threads.scope.Given as goal

abbrev pub invariant-loop-served : goal.invariant-loop-served
invariant-loop-served g l = IsServed l.served (g.F.Front.seen l.initial.front) (g.F.Front.seen l.front)
