use Rattle.fluid_store.proofs.Looked.{Looked}
use Rattle.fluid_store.proofs.completing.look_through.Given as goal

abbrev pub invariant-loop-id : goal.invariant-loop-id
invariant-loop-id g l = record {
  can_next : (goal.iterator-loop-id g).can_next l.id-iterator;
  is_finite : (goal.iterator-loop-id g).is_finite l.id-iterator;
  looked : Looked l.trees l.fn.level.keys l.id-iterator l.next.keys (g.O.Objects.seen l.fn.objects) (g.O.Objects.seen l.objects);
}
