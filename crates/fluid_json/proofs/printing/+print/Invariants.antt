use Rattle.std.proofs.Common.{◌≡◌, ◌+◌, ◌*◌, ◌++◌, drop}
use Rattle.fluid_json.specs.Tree.{depth, trees_depth, members_depth, trees, members}
use Rattle.fluid_json.specs.Tokens.{trees_tokens, members_tokens}
use Rattle.fluid_json.proofs.printing.+print.Given as goal

abbrev pub decreases-print_value : goal.decreases-print_value
decreases-print_value l = 2 * depth l.value.now

abbrev pub decreases-print_items : goal.decreases-print_items
decreases-print_items l = 2 * trees_depth (trees l.items.now) + 1

abbrev pub decreases-print_pairs : goal.decreases-print_pairs
decreases-print_pairs l = 2 * members_depth (members l.pairs.now) + 1

-- what was printed, and then what is left, is all
abbrev pub invariant-print_items-loop-item : goal.invariant-print_items-loop-item
invariant-print_items-loop-item l = record {
  before : l.out.before ≡ l.initial.out.before;
  tokens : l.out.tokens ++ trees_tokens (trees (drop l.item-index l.items)) ≡ l.initial.out.tokens ++ trees_tokens (trees l.items);
}

abbrev pub invariant-print_pairs-loop-name : goal.invariant-print_pairs-loop-name
invariant-print_pairs-loop-name l = record {
  before : l.out.before ≡ l.initial.out.before;
  tokens : l.out.tokens ++ members_tokens (members (drop l.name-index l.pairs)) ≡ l.initial.out.tokens ++ members_tokens (members l.pairs);
}
