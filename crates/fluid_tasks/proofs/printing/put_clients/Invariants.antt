use Rattle.std.proofs.Common.{◌≡◌, ◌++◌, map}
use Rattle.fluid_json.specs.Tree.{trees, text}
use Rattle.fluid_json.specs.Tokens.{tokens_of, trees_tokens}
use Rattle.fluid_tasks.specs.Printed.{list_of}
use Rattle.fluid_tasks.proofs.printing.put_clients.Given as goal

-- what was printed, and then what is left, is all
abbrev pub invariant-loop-number : goal.invariant-loop-number
invariant-loop-number l = record {
  can_next : (goal.iterator-loop-number).can_next l._number-iterator;
  is_finite : (goal.iterator-loop-number).is_finite l._number-iterator;
  before : l.out.before ≡ l.fn.out.before;
  tokens : l.out.tokens ++ trees_tokens (trees (map text (map (λ e. e.1) l._number-iterator))) ≡ l.fn.out.tokens ++ tokens_of (list_of text (map (λ e. e.1) l.candidates.entries));
}
