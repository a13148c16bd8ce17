use Rattle.std.proofs.Common.{ℕ, List, Option, nat_cmp}
use Rattle.std.specs.List.Sorted.{IsStrictlySortedBy}
use Rattle.std.specs.BTreeMap.{get}
use Rattle.fluid_tasks.specs.declared.queues.Queue.{Queue}
use Rattle.fluid_tasks.specs.Kept.{at, AreBack}
use Rattle.fluid_tasks.proofs.queues.take_all_back.Given as goal

-- whatever comes of the rest from here, all of it is this
abbrev pub invariant-loop-item : goal.invariant-loop-item
invariant-loop-item l = record {
  can_next : (goal.iterator-loop-item).can_next l.item-iterator;
  is_finite : (goal.iterator-loop-item).is_finite l.item-iterator;
  sorted : IsStrictlySortedBy nat_cmp l.item-iterator;
  whole : IsStrictlySortedBy nat_cmp l.held.keys;
  back :
      (q : List ℕ) (last : Option Queue) → AreBack (get nat_cmp l.items) l.client q l.item-iterator (at l.queues q) last
      → AreBack (get nat_cmp l.items) l.client q l.held.keys (at l.fn.queues q) last;
}
