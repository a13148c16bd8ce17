use Rattle.std.proofs.Common.{◌≡◌, ◌++◌, map, drop, pos}
use Rattle.fluid_json.specs.Tree.{trees, whole}
use Rattle.fluid_json.specs.Tokens.{tokens_of, trees_tokens}
use Rattle.fluid_tasks.specs.Printed.{list_of}
use Rattle.fluid_tasks.proofs.printing.put_free.Given as goal

-- what was printed, and then what is left, is all
abbrev pub invariant-loop-item : goal.invariant-loop-item
invariant-loop-item l = record {
  before : l.out.before ≡ l.fn.out.before;
  tokens : l.out.tokens ++ trees_tokens (trees (map (λ n. whole (pos n)) (drop l.item-index l.items))) ≡ l.fn.out.tokens ++ tokens_of (list_of (λ n. whole (pos n)) l.items);
}
