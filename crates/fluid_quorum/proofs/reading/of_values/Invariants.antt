use Rattle.std.proofs.Common.{◌≡◌, length, fold}
use Rattle.std.specs.FinMap.{empty}
use Rattle.fluid_table.specs.Keyed.{pairs_of}
use Rattle.fluid_quorum.specs.Places.{table_at, AreOrdered}
use Rattle.fluid_quorum.proofs.Placed.{with_pair}
use Rattle.fluid_quorum.proofs.reading.of_values.Given as goal

-- the values that are left come to those in their places as all come to none
abbrev pub invariant-loop-value : goal.invariant-loop-value
invariant-loop-value l = record {
  can_next : (goal.iterator-loop-value).can_next l.value-iterator;
  is_finite : (goal.iterator-loop-value).is_finite l.value-iterator;
  len : l.value-iterator.rest.len ≡ length l.value-iterator.rest.items;
  order : AreOrdered l.places;
  values : fold with_pair (table_at l.places) (pairs_of (λ v. v.key) (λ v. v.accepted) l.value-iterator.rest.items) ≡ fold with_pair empty (pairs_of (λ v. v.key) (λ v. v.accepted) l.fn.values.items);
}
