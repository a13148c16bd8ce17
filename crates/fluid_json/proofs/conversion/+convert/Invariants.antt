use Rattle.std.proofs.Common.{◌≡◌, length, option_map}
use Rattle.serde_json.specs.View.{items_view, members_view}
use Rattle.fluid_json.specs.Spelled.{of_items, of_members}
use Rattle.fluid_json.proofs.Onto.{onto_trees, onto_members, Follows}
use Rattle.fluid_json.proofs.conversion.+convert.Given as goal

-- what was converted, and then what is made of the rest, is made of all
abbrev pub invariant-convert_items-loop-item : goal.invariant-convert_items-loop-item
invariant-convert_items-loop-item l = record {
  can_next : (goal.iterator-convert_items-loop-item).can_next l.item-iterator;
  is_finite : (goal.iterator-convert_items-loop-item).is_finite l.item-iterator;
  len : l.item-iterator.rest.len ≡ length l.item-iterator.rest.items;
  done : of_items (items_view l.fn.items.items) ≡ option_map (onto_trees l.converted) (of_items (items_view l.item-iterator.rest.items));
}

abbrev pub invariant-convert_members-loop-key : goal.invariant-convert_members-loop-key
invariant-convert_members-loop-key l = record {
  can_next : (goal.iterator-convert_members-loop-key).can_next l.key-iterator;
  is_finite : (goal.iterator-convert_members-loop-key).is_finite l.key-iterator;
  done : of_members (members_view l.fn.object.entries) ≡ option_map (onto_members l.converted) (of_members (members_view l.key-iterator));
  keys : Follows l.converted l.key-iterator l.fn.object.entries;
}
