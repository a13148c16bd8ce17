use Rattle.std.proofs.Common.{◌≡◌, fold, take, drop}
use Rattle.fluid_quorum.specs.After.{with_accepted}
use Rattle.fluid_quorum.specs.Places.{table_at, AreOrdered, HavePlaces}
use Rattle.fluid_quorum.proofs.accepting.accept.Given as goal

-- so many are accepted
abbrev pub invariant-loop-index : goal.invariant-loop-index
invariant-loop-index l = record {
  order : AreOrdered l.values;
  places : HavePlaces l.values l.pending.items;
  values : table_at l.values ≡ fold (with_accepted l.approval) (table_at l.fn.values) (take l._index l.fn.pending.items);
  pending : l.pending.items ≡ drop l._index l.fn.pending.items;
}
