use Rattle.std.proofs.Common.{◌≡◌, ◌++◌, [], drop, map}
use Rattle.fluid_json.specs.Tree.{trees}
use Rattle.fluid_json.specs.Tokens.{tokens_of, trees_tokens}
use Rattle.fluid_types.specs.Blobs.{member_tree, list_tree}
use Rattle.fluid_quorum.proofs.writing.print_members.Given as goal

-- what was printed, and then what is left, is all
abbrev pub invariant-loop-member : goal.invariant-loop-member
invariant-loop-member l = record {
  before : l.out.before ≡ [];
  tokens : l.out.tokens ++ trees_tokens (trees (map member_tree (drop l.member-index l.members))) ≡ tokens_of (list_tree member_tree l.members);
}
