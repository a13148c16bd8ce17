use Rattle.std.proofs.Common.{sym, ◌∙◌}
use Rattle.fluid_ticket.proofs.Prepares.{answered_by, joined_from, absent_from, join_dropped, join_sequenced}
use Rattle.fluid_ticket.proofs.sequencer.Sequencer.prepare_join.Goals as goal

pub returns-then-is_some : goal.returns-then-is_some
returns-then-is_some c = λ answer.
    rw (← c.self.view_is)
    (answered_by c.dropped.result _ _ c.dropped.ensures
    (sym (join_dropped _ c.args.id.now c.args.moment answer c.args.scopes c.args.detail.now (joined_from c.row.result _ c.row.ensures (sym c.is_some.ensures ∙ c.if-is_some.true)))))

pub returns : goal.returns
returns c = λ answer.
    rw (← c.self.view_is, c.new.ensures, c.system_message-message.ensures, c.in_ok-data.ensures, c.in_ok-id.ensures, c.self.invariant.is_minimum)
    (sym (join_sequenced _ c.args.id.now c.args.moment answer c.args.scopes c.args.detail.now (absent_from c.row.result _ c.row.ensures (sym c.is_some.ensures ∙ c.if-is_some.false))))
