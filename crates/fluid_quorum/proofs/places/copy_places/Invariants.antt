use Rattle.std.specs.List.Sorted.{IsStrictlySortedBy}
use Rattle.std.specs.Map.{keys_of}
use Rattle.std.proofs.Common.{string_cmp}
use Rattle.fluid_quorum.specs.Places.{AreOrdered}
use Rattle.fluid_quorum.proofs.Placed.{Copies}
use Rattle.fluid_quorum.proofs.places.copy_places.Given as goal

-- what is left, and then what is copied, answers as all did
abbrev pub invariant-loop-key : goal.invariant-loop-key
invariant-loop-key g l = record {
  can_next : (goal.iterator-loop-key g).can_next l.key-iterator;
  is_finite : (goal.iterator-loop-key g).is_finite l.key-iterator;
  order : AreOrdered l.copies;
  sorted : IsStrictlySortedBy string_cmp (keys_of l.key-iterator);
  copied : Copies l.key-iterator l.copies l.places;
}
