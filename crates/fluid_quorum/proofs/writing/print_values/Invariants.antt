use Rattle.std.proofs.Common.{◌≡◌, ◌++◌, [], drop, map}
use Rattle.fluid_json.specs.Tree.{trees}
use Rattle.fluid_json.specs.Tokens.{tokens_of, trees_tokens}
use Rattle.fluid_types.specs.Blobs.{value_tree, list_tree}
use Rattle.fluid_quorum.proofs.writing.print_values.Given as goal

-- what was printed, and then what is left, is all
abbrev pub invariant-loop-value : goal.invariant-loop-value
invariant-loop-value l = record {
  before : l.out.before ≡ [];
  tokens : l.out.tokens ++ trees_tokens (trees (map (λ v. value_tree (v.key, v.accepted)) (drop l.value-index l.values))) ≡ tokens_of (list_tree (λ v. value_tree (v.key, v.accepted)) l.values);
}
