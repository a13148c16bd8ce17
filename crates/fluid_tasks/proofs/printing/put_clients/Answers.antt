use Rattle.std.proofs.Common.{rules, ◌≡◌, ◌∷◌, [], ◌++◌, ◌∙◌, map, ap, sym}
use Rattle.fluid_json.specs.Tree.{trees, text}
use Rattle.fluid_json.specs.Tokens.{tokens_of, trees_tokens}
use Rattle.fluid_tasks.proofs.Texts.{item_on}
use Rattle.fluid_tasks.proofs.printing.put_clients.Goals as goal

pub loop-number-preserved : goal.loop-number-preserved
loop-number-preserved c =
    let left : c.loop-number._number-iterator ≡ (c.in-Some._number.now, c.in-Some.client.now) ∷ c.next.new.self = search rules in
    record {
      can_next = tt;
      is_finite = tt;
      before = c.text.ensures.before ∙ c.loop-number.invariant.before;
      tokens =
          item_on text c.in-Some.client.now (map (λ e. e.1) c.loop-number._number-iterator) (map (λ e. e.1) c.next.new.self) c.loop-number.out.tokens c.text.new.self.tokens _ (ap (map (λ e. e.1)) left)
          (c.in_ok-text.ensures.tokens ∙ ap (λ s. c.loop-number.out.tokens ++ tokens_of (text s)) c.as_str.ensures.bytes) c.loop-number.invariant.tokens;
    }

pub returns-clause-tokens : goal.returns-clause-tokens
returns-clause-tokens c =
    let none : c.loop-number._number-iterator ≡ [] = search rules in
    c.in_ok-end_list.ensures.tokens ∙ sym (ap (λ es. c.loop-number.out.tokens ++ trees_tokens (trees (map text (map (λ e. e.1) es)))) none) ∙ c.loop-number.invariant.tokens
