use Rattle.std.proofs.Common.{◌≡◌, ◌++◌}
use Rattle.fluid_store.specs.Listed.{joined, keyed_of}
use Rattle.fluid_store.proofs.listing.joined.Given as goal

-- the lists so far, and then those left, are all of them
abbrev pub invariant-loop-key : goal.invariant-loop-key
invariant-loop-key l = record {
  can_next : (goal.iterator-loop-key).can_next l.key-iterator;
  is_finite : (goal.iterator-loop-key).is_finite l.key-iterator;
  all : l.all.items ++ joined (keyed_of l.key-iterator) ≡ joined (keyed_of l.fn.below.entries);
}
