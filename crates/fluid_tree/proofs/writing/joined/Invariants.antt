use Rattle.std.proofs.Common.{◌≡◌, ◌++◌, flat_map}
use Rattle.fluid_tree.proofs.writing.joined.Given as goal

abbrev pub invariant-loop-key : goal.invariant-loop-key
invariant-loop-key l = record {
  can_next : (goal.iterator-loop-key).can_next l.key-iterator;
  is_finite : (goal.iterator-loop-key).is_finite l.key-iterator;
  all : l.body.items ++ flat_map (λ e. e.1.items) l.key-iterator ≡ flat_map (λ e. e.1.items) l.fn.sorted.entries;
}
