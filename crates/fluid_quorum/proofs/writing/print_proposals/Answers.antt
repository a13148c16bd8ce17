use Rattle.std.proofs.Common.{rules, ◌<◌, ◌≤◌, ◌+◌, ◌++◌, length, drop, map, ap, sym, ◌∙◌, append_assoc}
use Rattle.fluid_json.specs.Tree.{trees}
use Rattle.fluid_json.specs.Tokens.{tokens_of, trees_tokens}
use Rattle.fluid_types.specs.Blobs.{proposal_tree, list_tree}
use Rattle.fluid_quorum.proofs.Filled.{drop-at, drop-past}
use Rattle.fluid_quorum.proofs.writing.print_proposals.Goals as goal

pub loop-index-preserved : goal.loop-index-preserved
loop-index-preserved c =
    let within : c.loop-index.index < length c.args.proposals.now.items = search rules in
    let one = c.index.result.now in
    let left = drop (c.loop-index.index + 1) c.args.proposals.now.items in
    record {
      before = c.put_proposal.ensures.before ∙ c.loop-index.invariant.before;
      tokens =
          ap (λ ts. ts ++ trees_tokens (trees (map proposal_tree left))) c.in_ok-put_proposal.ensures.tokens
          ∙ append_assoc c.loop-index.out.tokens (tokens_of (proposal_tree one)) (trees_tokens (trees (map proposal_tree left)))
          ∙ ap (λ ps. c.loop-index.out.tokens ++ trees_tokens (trees (map proposal_tree ps))) (sym (drop-at c.loop-index.index c.args.proposals.now.items one within c.index.ensures))
          ∙ c.loop-index.invariant.tokens;
    }

pub returns : goal.returns
returns c =
    let past : length c.args.proposals.now.items ≤ c.loop-index.index = search rules in
    let all =
    c.in_ok-end_list.ensures.tokens
    ∙ ap (λ rest. c.loop-index.out.tokens ++ trees_tokens (trees (map proposal_tree rest))) (sym (drop-past c.loop-index.index c.args.proposals.now.items past))
    ∙ c.loop-index.invariant.tokens in
    c.into_text.ensures (list_tree proposal_tree c.args.proposals.now.items) all
