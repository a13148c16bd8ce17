use Rattle.std.proofs.Common.{◌≡◌, ◌++◌, map}
use Rattle.fluid_quorum.proofs.Placed.{values_in}
use Rattle.fluid_quorum.proofs.places.list_values.Given as goal

-- what was listed, and then what is left, is all
abbrev pub invariant-loop-key : goal.invariant-loop-key
invariant-loop-key g l = record {
  can_next : (goal.iterator-loop-key g).can_next l._key-iterator;
  is_finite : (goal.iterator-loop-key g).is_finite l._key-iterator;
  all : map (λ v. v.now) l.all.items ++ values_in l._key-iterator ≡ values_in l.places.entries;
}
