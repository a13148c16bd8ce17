use Rattle.std.proofs.Common.{◌≡◌, ◌++◌, [], drop, map}
use Rattle.fluid_json.specs.Tree.{trees}
use Rattle.fluid_json.specs.Tokens.{tokens_of, trees_tokens}
use Rattle.fluid_types.specs.Blobs.{proposal_tree, list_tree}
use Rattle.fluid_quorum.proofs.writing.print_proposals.Given as goal

-- what was printed, and then what is left, is all
abbrev pub invariant-loop-index : goal.invariant-loop-index
invariant-loop-index l = record {
  before : l.out.before ≡ [];
  tokens : l.out.tokens ++ trees_tokens (trees (map proposal_tree (drop l.index l.proposals.items))) ≡ tokens_of (list_tree proposal_tree l.proposals.items);
}
