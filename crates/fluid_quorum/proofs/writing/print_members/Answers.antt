use Rattle.std.proofs.Common.{◌++◌, map, ap, sym, ◌∙◌}
use Rattle.std.proofs.lemmas.List.{drop_all}
use Rattle.fluid_json.specs.Tree.{trees}
use Rattle.fluid_json.specs.Tokens.{trees_tokens}
use Rattle.fluid_types.specs.Blobs.{member_tree, list_tree}
use Rattle.fluid_quorum.proofs.writing.print_members.Goals as goal

pub returns : goal.returns
returns c =
    let all =
    c.in_ok-end_list.ensures.tokens
    ∙ ap (λ rest. c.loop-member.out.tokens ++ trees_tokens (trees (map member_tree rest))) (sym (drop_all _ c.args.members.now c.loop-member-test.false))
    ∙ c.loop-member.invariant.tokens in
    c.into_text.ensures (list_tree member_tree c.args.members.now) all
