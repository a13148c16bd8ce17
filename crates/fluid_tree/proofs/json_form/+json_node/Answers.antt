use Rattle.std.proofs.Common.{◌≡◌, ℕ, List, arith, inr, ◌++◌, ◌∷◌, [], ◌+◌, drop, Ok, ap, sym, subst, ◌∙◌}
use Rattle.fluid_json.specs.Tree.{members}
use Rattle.fluid_tree.specs.Identity.{◌>>=◌}
use Rattle.fluid_tree.specs.FromJson.{children_by, nodes_by, node_within}
use Rattle.fluid_tree.proofs.Formed.{onto, member_refused, member_goes, members_end}
use Rattle.fluid_tree.proofs.Walked.{passed_on, success}
use Rattle.fluid_tree.proofs.json_form.+json_node.Goals as goal

pub children_by-returns-in_err-node : goal.children_by-returns-in_err-node
children_by-returns-in_err-node t c =
    passed_on c.from_residual.result (nodes_by (node_within c.args.levels) (members c.args.entries.now)) c.in_err-node.field-0.0 c.from_residual.ensures.1
    (member_refused (node_within c.args.levels) c.args.entries.now c.loop-name.name-index c.loop-name-item.result c.loop-name.nodes c.in_err-node.field-0.0 c.node_within.result (omega arith) c.loop-name-item.is
    c.loop-name.invariant c.in_err-node.was c.node_within.ensures)

pub children_by-loop-name-preserved : goal.children_by-loop-name-preserved
children_by-loop-name-preserved t c =
    let ms = c.args.entries.now in
    let i = c.loop-name.name-index in
    let done = c.loop-name.nodes in
    let node = node_within c.args.levels in
    let same = c.in_ok-push.ensures ∙ ap (λ (n : List ℕ). done ++ (n, c.in_ok-node.node) ∷ []) c.in_ok-name.ensures in
    subst (λ cs. children_by node (members ms) ≡ (children_by node (members (drop (i + 1) ms)) >>= λ rest. Ok (onto cs rest))) (sym same)
    (member_goes node ms i c.loop-name-item.result done c.in_ok-node.node (omega arith) c.loop-name-item.is c.loop-name.invariant
    (success c.node_within.result (node c.loop-name-item.result.1) c.in_ok-node.node c.in_ok-node.was c.node_within.ensures))

pub children_by-returns : goal.children_by-returns
children_by-returns t c =
    inr (ap Ok c.tree.ensures ∙ members_end (node_within c.args.levels) c.args.entries.now c.loop-name.name-index c.loop-name.nodes (omega arith) c.loop-name.invariant)
