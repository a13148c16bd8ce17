use Rattle.std.proofs.Common.{◌≡◌, take}
use Rattle.fluid_quorum.specs.Places.{table_at, AreOrdered, HavePlaces}
use Rattle.fluid_quorum.specs.Lists.{values_of}
use Rattle.fluid_quorum.proofs.reading.placed.Given as goal

-- the keys of the proposals so far have places
abbrev pub invariant-loop-index : goal.invariant-loop-index
invariant-loop-index l = record {
  order : AreOrdered l.places;
  values : table_at l.places ≡ values_of l.fn.values.items;
  places : HavePlaces l.places (take l.index l.pending.items);
}
