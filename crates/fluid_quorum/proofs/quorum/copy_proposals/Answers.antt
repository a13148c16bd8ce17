use Rattle.std.proofs.Common.{rules, ◌≡◌, ◌<◌, ◌≤◌, ◌+◌, ◌++◌, [], ◌∷◌, length, drop, ap, sym, ◌∙◌, append_assoc, append-nil}
use Rattle.fluid_quorum.proofs.Filled.{drop-at, drop-past}
use Rattle.fluid_quorum.proofs.quorum.copy_proposals.Goals as goal

pub loop-index-preserved : goal.loop-index-preserved
loop-index-preserved c =
    let within : c.loop-index.index < length c.args.proposals.now.items = search rules in
    let pushed : c.push_back.new.self.items ≡ c.loop-index.copies.items ++ c.in_ok-copy.copy ∷ [] = search rules in
    let left = drop (c.loop-index.index + 1) c.args.proposals.now.items in
    ap (λ l. l ++ left) pushed
    ∙ append_assoc c.loop-index.copies.items (c.in_ok-copy.copy ∷ []) left
    ∙ ap (λ p. c.loop-index.copies.items ++ p ∷ left) c.in_ok-copy.ensures
    ∙ ap (λ l. c.loop-index.copies.items ++ l) (sym (drop-at c.loop-index.index c.args.proposals.now.items c.index.result.now within c.index.ensures))
    ∙ c.loop-index.invariant

pub returns : goal.returns
returns c =
    let past : length c.args.proposals.now.items ≤ c.loop-index.index = search rules in
    sym (ap (λ l. c.loop-index.copies.items ++ l) (drop-past c.loop-index.index c.args.proposals.now.items past) ∙ append-nil c.loop-index.copies.items) ∙ c.loop-index.invariant
