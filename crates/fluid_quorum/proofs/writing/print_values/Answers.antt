use Rattle.std.proofs.Common.{◌≡◌, List, [], ◌∷◌, ◌++◌, map, refl, ap, sym, ◌∙◌}
use Rattle.std.proofs.lemmas.List.{drop_all}
use Rattle.fluid_json.specs.Tree.{list, trees}
use Rattle.fluid_json.specs.Tokens.{trees_tokens}
use Rattle.fluid_json.specs.Printed.{printed}
use Rattle.fluid_types.specs.Blobs.{value_tree, list_tree}
use Rattle.fluid_table.specs.Keyed.{pairs_of}
use Rattle.fluid_quorum.specs.declared.accepting.KeyValue.{KeyValue}
use Rattle.fluid_quorum.proofs.writing.print_values.Goals as goal

as_pairs : (vs : List KeyValue) → map (λ v. value_tree (v.key, v.accepted)) vs ≡ map value_tree (pairs_of (λ v. v.key) (λ v. v.accepted) vs)
as_pairs [] = refl
as_pairs (v ∷ vs) = ap (λ l. value_tree (v.key, v.accepted) ∷ l) (as_pairs vs)

pub returns : goal.returns
returns c =
    let all =
    c.in_ok-end_list.ensures.tokens
    ∙ ap (λ rest. c.loop-value.out.tokens ++ trees_tokens (trees (map (λ v. value_tree (v.key, v.accepted)) rest))) (sym (drop_all _ c.args.values.now c.loop-value-test.false))
    ∙ c.loop-value.invariant.tokens in
    c.into_text.ensures (list_tree (λ v. value_tree (v.key, v.accepted)) c.args.values.now) all ∙ ap (λ l. printed (list (trees l))) (as_pairs c.args.values.now)
