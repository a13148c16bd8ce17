use Rattle.std.proofs.Common.{◌≡◌, ◌++◌, string_cmp}
use Rattle.std.specs.BTreeMap.{IsOrdered}
use Rattle.fluid_json.specs.Tree.{object, members}
use Rattle.fluid_json.specs.Tokens.{tokens_of, members_tokens}
use Rattle.fluid_tasks.specs.Shown.{task_shown, shown_in, IsFoundEach}
use Rattle.fluid_tasks.proofs.printing.put_tasks.Given as goal

-- what was printed, and then what is left, is all
abbrev pub invariant-loop-name : goal.invariant-loop-name
invariant-loop-name l = record {
  can_next : (goal.iterator-loop-name).can_next l.name-iterator;
  is_finite : (goal.iterator-loop-name).is_finite l.name-iterator;
  ordered : IsOrdered string_cmp l.tasks;
  found : IsFoundEach l.tasks;
  before : l.out.before ≡ l.fn.out.before;
  tokens : l.out.tokens ++ members_tokens (members (shown_in task_shown l.name-iterator)) ≡ l.fn.out.tokens ++ tokens_of (object (members (shown_in task_shown l.tasks.entries)));
}
