use Rattle.std.proofs.Common.{rules, ◌≡◌, ◌∷◌, [], ◌++◌, ◌∙◌, map, ap, sym}
use Rattle.fluid_json.specs.Tree.{trees}
use Rattle.fluid_json.specs.Tokens.{trees_tokens}
use Rattle.fluid_tasks.specs.Printed.{held_item}
use Rattle.fluid_tasks.proofs.Texts.{item_on}
use Rattle.fluid_tasks.proofs.printing.put_held.Goals as goal

pub loop-item-preserved : goal.loop-item-preserved
loop-item-preserved c =
    let left : c.loop-item.item-iterator ≡ (c.in-Some.item.now, c.in-Some.client.now) ∷ c.next.new.self = search rules in
    record {
      can_next = tt;
      is_finite = tt;
      before = c.put_held_item.ensures.before ∙ c.loop-item.invariant.before;
      tokens =
          item_on held_item (c.in-Some.item.now, c.in-Some.client.now) c.loop-item.item-iterator c.next.new.self c.loop-item.out.tokens c.put_held_item.new.out.tokens _ left
          c.in_ok-put_held_item.ensures.tokens c.loop-item.invariant.tokens;
    }

pub returns-clause-tokens : goal.returns-clause-tokens
returns-clause-tokens c =
    let none : c.loop-item.item-iterator ≡ [] = search rules in
    c.in_ok-end_list.ensures.tokens ∙ sym (ap (λ es. c.loop-item.out.tokens ++ trees_tokens (trees (map held_item es))) none) ∙ c.loop-item.invariant.tokens
