use Rattle.std.proofs.Common.{◌≡◌, ℕ, List, Bool, arith, inr, ap₂, ◌++◌, ◌∷◌, [], ◌+◌, drop, Ok, sym, subst, ◌∙◌}
use Rattle.fluid_tree.specs.Summary.{children}
use Rattle.fluid_tree.specs.Identity.{id_within, entries_within, ◌>>=◌}
use Rattle.fluid_tree.proofs.Walked.{success, handed_on, node_refused, node_goes, nodes_end}
use Rattle.fluid_tree.proofs.identity.+id.Goals as goal

pub entries_within-returns-in_err-id : goal.entries_within-returns-in_err-id
entries_within-returns-in_err-id t c =
    handed_on c.from_residual-in_err-id.result (entries_within c.args.levels (children c.args.nodes.now)) c.in_err-id.field-0.0 c.from_residual-in_err-id.ensures.1
    (node_refused c.args.levels c.args.nodes.now c.loop-name.name-index c.loop-name-item.result c.loop-name.entries.items c.in_err-id.field-0.0 c.id_within.result (omega arith) c.loop-name-item.is
    c.loop-name.invariant c.in_err-id.was c.id_within.ensures)

pub entries_within-loop-name-preserved : goal.entries_within-loop-name-preserved
entries_within-loop-name-preserved t c =
    let ms = c.args.nodes.now in
    let i = c.loop-name.name-index in
    let done = c.loop-name.entries.items in
    let same =
    c.in_ok-push.ensures.items ∙ ap₂ (λ (n : List ℕ) (b : Bool). done ++ record { name = n; tree = b; id = c.in_ok-id.id } ∷ []) c.in_ok-name.ensures c.is_tree.ensures in
    subst (λ es. entries_within c.args.levels (children ms) ≡ (entries_within c.args.levels (children (drop (i + 1) ms)) >>= λ rest. Ok (es ++ rest))) (sym same)
    (node_goes c.args.levels ms i c.loop-name-item.result done c.in_ok-id.id (omega arith) c.loop-name-item.is c.loop-name.invariant
    (success c.id_within.result (id_within c.args.levels c.loop-name-item.result.1) c.in_ok-id.id c.in_ok-id.was c.id_within.ensures))

pub entries_within-returns : goal.entries_within-returns
entries_within-returns t c = inr (nodes_end c.args.levels c.args.nodes.now c.loop-name.name-index c.loop-name.entries.items (omega arith) c.loop-name.invariant)
