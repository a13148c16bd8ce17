use Rattle.std.proofs.Common.{◌≡◌, ◌++◌, fold, length, map}
use Rattle.std.specs.FinMap.Entries.{put}
use Rattle.fluid_store.specs.Held.{byte_order}
use Rattle.fluid_store.specs.Listed.{in_key_order, keyed_of}
use Rattle.fluid_store.specs.Parts.{entry_of, keyed_parts}
use Rattle.fluid_store.proofs.listing.joined_part.Given as goal

-- the entries so far, and then those of the parts left, are those of all; and the objects of the parts left are put among those of
-- the parts so far
abbrev pub invariant-loop-name : goal.invariant-loop-name
invariant-loop-name l = record {
  len : l.name-iterator.rest.len ≡ length l.name-iterator.rest.items;
  entries : l.entries.items ++ map entry_of l.name-iterator.rest.items ≡ map entry_of l.fn.parts;
  below : fold (λ sorted one. put byte_order one.0 one.1 sorted) (keyed_of l.below.entries) (keyed_parts l.name-iterator.rest.items) ≡ in_key_order (keyed_parts l.fn.parts);
}
