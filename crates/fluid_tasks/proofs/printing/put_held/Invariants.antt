use Rattle.std.proofs.Common.{◌≡◌, ◌++◌, map}
use Rattle.fluid_json.specs.Tree.{trees}
use Rattle.fluid_json.specs.Tokens.{tokens_of, trees_tokens}
use Rattle.fluid_tasks.specs.Printed.{list_of, held_item}
use Rattle.fluid_tasks.proofs.printing.put_held.Given as goal

-- what was printed, and then what is left, is all
abbrev pub invariant-loop-item : goal.invariant-loop-item
invariant-loop-item l = record {
  can_next : (goal.iterator-loop-item).can_next l.item-iterator;
  is_finite : (goal.iterator-loop-item).is_finite l.item-iterator;
  before : l.out.before ≡ l.fn.out.before;
  tokens : l.out.tokens ++ trees_tokens (trees (map held_item l.item-iterator)) ≡ l.fn.out.tokens ++ tokens_of (list_of held_item l.held.entries);
}
