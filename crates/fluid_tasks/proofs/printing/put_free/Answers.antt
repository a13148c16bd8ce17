use Rattle.std.proofs.Common.{◌++◌, ◌∙◌, map, ap, sym, pos}
use Rattle.std.proofs.lemmas.List.{drop_all}
use Rattle.fluid_json.specs.Tree.{trees, whole}
use Rattle.fluid_json.specs.Tokens.{trees_tokens}
use Rattle.fluid_tasks.proofs.printing.put_free.Goals as goal

pub returns-clause-tokens : goal.returns-clause-tokens
returns-clause-tokens c =
    c.in_ok-end_list.ensures.tokens
    ∙ ap (λ rest. c.loop-item.out.tokens ++ trees_tokens (trees (map (λ n. whole (pos n)) rest))) (sym (drop_all _ c.args.items.now c.loop-item-test.false))
    ∙ c.loop-item.invariant.tokens
