use Rattle.std.proofs.Common.{◌≡◌, ◌++◌, [], map}
use Rattle.fluid_json.specs.Tree.{trees}
use Rattle.fluid_json.specs.Tokens.{tokens_of, trees_tokens}
use Rattle.fluid_types.specs.Blobs.{value_tree, list_tree}
use Rattle.fluid_quorum.specs.Places.{held}
use Rattle.fluid_quorum.proofs.writing.print_value_places.Given as goal

-- what was printed, and then what is left, is all
abbrev pub invariant-loop-key : goal.invariant-loop-key
invariant-loop-key l = record {
  can_next : (goal.iterator-loop-key).can_next l.key-iterator;
  is_finite : (goal.iterator-loop-key).is_finite l.key-iterator;
  before : l.out.before ≡ [];
  tokens : l.out.tokens ++ trees_tokens (trees (map value_tree (held l.key-iterator))) ≡ tokens_of (list_tree value_tree (held l.places.entries));
}
