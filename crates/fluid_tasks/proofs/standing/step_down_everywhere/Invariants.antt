use Rattle.std.proofs.Common.{ℕ, List, Option, string_cmp}
use Rattle.std.specs.List.Sorted.{IsStrictlySortedBy}
use Rattle.std.specs.Map.{keys_of}
use Rattle.std.specs.BTreeMap.{get_by_text}
use Rattle.fluid_tasks.specs.Kept.{at, Candidates, HasSteppedDown}
use Rattle.fluid_tasks.proofs.Left.{noted_in}
use Rattle.fluid_tasks.proofs.standing.step_down_everywhere.Given as goal

-- whatever comes of the rest from here, all of it is this
abbrev pub invariant-loop-name : goal.invariant-loop-name
invariant-loop-name l = record {
  can_next : (goal.iterator-loop-name).can_next l.name-iterator;
  is_finite : (goal.iterator-loop-name).is_finite l.name-iterator;
  sorted : IsStrictlySortedBy string_cmp (keys_of l.name-iterator);
  down :
      (u : List ℕ) (last : Option Candidates) → HasSteppedDown l.client (noted_in l.name-iterator u) (at l.tasks u) last
      → HasSteppedDown l.client (get_by_text l.noted u) (at l.fn.tasks u) last;
}
