use Rattle.std.proofs.Common.{ap, sym, ◌++◌, ◌∙◌}
use Rattle.std.proofs.lemmas.List.{drop_all}
use Rattle.fluid_json.specs.Tree.{object, members}
use Rattle.fluid_json.specs.Tokens.{members_tokens}
use Rattle.fluid_map.proofs.content.print_pairs.Goals as goal

pub returns-clause-text : goal.returns-clause-text
returns-clause-text c =
    let all =
    c.in_ok-end_object.ensures.tokens
    ∙ ap (λ rest. c.loop-key.printer.tokens ++ members_tokens (members rest)) (sym (drop_all _ c.args.pairs.now c.loop-key-test.false))
    ∙ c.loop-key.invariant.tokens in
    c.into_text.ensures (object (members c.args.pairs.now)) all
