use Rattle.std.proofs.Common.{sym, ◌∙◌}
use Rattle.fluid_scribe.proofs.Judged.{malformed, ruled, missing, acked-at, at_last, quorum-at}
use Rattle.fluid_scribe.proofs.answering.answer_to.Goals as goal

pub returns-in_default : goal.returns-in_default
returns-in_default c = malformed _ _ _ (sym c.in_ok-proposed.ensures ∙ c.in_default.is)

pub returns-in-Some-2 : goal.returns-in-Some-2
returns-in-Some-2 c =
    ruled _ _ _ c.in-Some.proposed _ (sym c.in_ok-proposed.ensures ∙ c.in-Some.is)
    (at_last _ _ _ _ c.in-Some.proposed _ c.last_ack.ensures c.reference_of-reference.ensures c.in_ok-rule.ensures ∙ c.in-Some-2.is)

pub returns-then-not-found : goal.returns-then-not-found
returns-then-not-found c =
    missing _ _ _ c.in-Some.proposed (sym c.in_ok-proposed.ensures ∙ c.in-Some.is)
    (at_last _ _ _ _ c.in-Some.proposed _ c.last_ack.ensures c.reference_of-reference.ensures c.in_ok-rule.ensures ∙ c.in_default-2.is)
    c.if-not-found.true

pub returns : goal.returns
returns c =
    let at = quorum-at c.args.tail.now c.args.waiting.now.messages c.args.acks.now c.reference_of-reference.result in
    acked-at _ _ _ c.in-Some.proposed _ _ _ (sym c.in_ok-proposed.ensures ∙ c.in-Some.is)
    (at_last _ _ _ _ c.in-Some.proposed _ c.last_ack.ensures c.reference_of-reference.ensures c.in_ok-rule.ensures ∙ c.in_default-2.is)
    c.if-not-found.false c.reference_of-reference.ensures at (c.in_ok-handle.ensures _ c.in_ok-state.ensures)
