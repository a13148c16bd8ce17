use Rattle.std.proofs.Common.{rules, ◌≡◌, ◌∷◌, [], ◌++◌, ◌∙◌, ap, sym}
use Rattle.fluid_json.specs.Tree.{members}
use Rattle.fluid_json.specs.Tokens.{members_tokens}
use Rattle.fluid_tasks.specs.Shown.{task_shown, shown_in}
use Rattle.fluid_tasks.proofs.Texts.{member_on}
use Rattle.fluid_tasks.proofs.printing.put_tasks.Goals as goal

pub loop-name-preserved : goal.loop-name-preserved
loop-name-preserved c =
    let left : c.loop-name.name-iterator ≡ (c.in-Some.name.now, c.in-Some.candidates.now) ∷ c.next.new.self = search rules in
    record {
      can_next = tt;
      is_finite = tt;
      ordered = c.loop-name.invariant.ordered;
      found = c.loop-name.invariant.found;
      before = c.put_task.ensures.before ∙ c.loop-name.invariant.before;
      tokens =
          member_on task_shown (c.in-Some.name.now, c.in-Some.candidates.now) c.loop-name.name-iterator c.next.new.self c.as_str.result.now c.loop-name.out.tokens c.put_task.new.out.tokens _ left
          c.as_str.ensures.value c.in_ok-put_task.ensures.tokens c.loop-name.invariant.tokens;
    }

pub returns-clause-tokens : goal.returns-clause-tokens
returns-clause-tokens c =
    let none : c.loop-name.name-iterator ≡ [] = search rules in
    c.in_ok-end_object.ensures.tokens
    ∙ sym (ap (λ es. c.loop-name.out.tokens ++ members_tokens (members (shown_in task_shown es))) none)
    ∙ c.loop-name.invariant.tokens
