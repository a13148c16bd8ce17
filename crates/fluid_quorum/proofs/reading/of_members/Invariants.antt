use Rattle.std.proofs.Common.{◌≡◌, length, fold}
use Rattle.std.specs.FinMap.{empty}
use Rattle.fluid_table.specs.Keyed.{pairs_of}
use Rattle.fluid_quorum.specs.Places.{table_at, AreOrdered}
use Rattle.fluid_quorum.proofs.Placed.{with_pair}
use Rattle.fluid_quorum.proofs.reading.of_members.Given as goal

-- the members that are left come to those in their places as all come to none
abbrev pub invariant-loop-member : goal.invariant-loop-member
invariant-loop-member l = record {
  can_next : (goal.iterator-loop-member).can_next l.member-iterator;
  is_finite : (goal.iterator-loop-member).is_finite l.member-iterator;
  len : l.member-iterator.rest.len ≡ length l.member-iterator.rest.items;
  order : AreOrdered l.places;
  members : fold with_pair (table_at l.places) (pairs_of (λ m. m.id) (λ m. m) l.member-iterator.rest.items) ≡ fold with_pair empty (pairs_of (λ m. m.id) (λ m. m) l.fn.members.items);
}
