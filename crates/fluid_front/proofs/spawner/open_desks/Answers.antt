use Rattle.fluid_front.proofs.Served.{counts_behind}
use Rattle.fluid_front.proofs.spawner.open_desks.Goals as goal
use Rattle.fluid_front.proofs.spawner.open_desks.Goals.{else-loop-test, then-loop-test+in-Err-2, then-loop-test+in-Err}

pub returns-clause-counts : goal.returns-clause-counts
returns-clause-counts g c = elim c.loop-test.branch [
  | else-loop-test w ↦ rw w.front-is c.loop.invariant.counts
  | then-loop-test+in-Err-2 w ↦ rw w.front-is (counts_behind (g.F.Front.seen c.args.front.now) (g.F.Front.seen c.loop.front) (g.F.Front.seen w.open_desk.new.front) c.loop.invariant.counts w.open_desk.ensures.counts)
  | then-loop-test+in-Err w ↦ rw w.front-is (counts_behind (g.F.Front.seen c.args.front.now) (g.F.Front.seen c.loop.front) (g.F.Front.seen w.open_desk.new.front) c.loop.invariant.counts w.open_desk.ensures.counts)
]
