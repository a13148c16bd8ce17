use Rattle.std.proofs.Common.{◌≡◌, ◌++◌, length, option_map}
use Rattle.fluid_json.specs.Tree.{trees}
use Rattle.fluid_quorum.specs.Reading.{each}
use Rattle.fluid_quorum.proofs.reading.each.Given as goal

-- what was read, and then what the rest is read as, is all
abbrev pub invariant-loop-item : goal.invariant-loop-item
invariant-loop-item g l = record {
  can_next : (goal.iterator-loop-item g).can_next l.item-iterator;
  is_finite : (goal.iterator-loop-item g).is_finite l.item-iterator;
  len : l.item-iterator.rest.len ≡ length l.item-iterator.rest.items;
  done : each (g.F.Form.reads l.form) (trees l.fn.items.items) ≡ option_map (λ vs. l.values.items ++ vs) (each (g.F.Form.reads l.form) (trees l.item-iterator.rest.items));
}
