use Rattle.fluid_front.specs.Fronts.{CountsStay, GivesNothing}
use Rattle.fluid_front.proofs.spawner.open_desks.Given as goal

-- no wire was given
abbrev pub invariant-loop : goal.invariant-loop
invariant-loop g l = record {
  counts : CountsStay (g.F.Front.seen l.fn.front) (g.F.Front.seen l.front);
  same : GivesNothing (g.F.Front.seen l.fn.front) (g.F.Front.seen l.front);
}
