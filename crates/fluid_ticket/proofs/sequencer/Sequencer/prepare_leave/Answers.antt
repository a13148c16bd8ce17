use Rattle.std.proofs.Common.{is_some, ap, sym, ◌∙◌}
use Rattle.fluid_ticket.proofs.Prepares.{answered_by, joined_from, absent_from, leave_dropped, leave_sequenced}
use Rattle.fluid_ticket.proofs.sequencer.Sequencer.prepare_leave.Goals as goal

pub returns-then-is_none : goal.returns-then-is_none
returns-then-is_none c = λ answer.
    rw (← c.self.view_is)
    (answered_by c.dropped.result _ _ c.dropped.ensures
    (sym (leave_dropped _ c.args.id.now c.args.moment answer (ap is_some (absent_from c.row.result _ c.row.ensures c.if-is_none.ensures)))))

pub returns : goal.returns
returns c = λ answer.
    rw (← c.self.view_is, c.new.ensures, c.system_message-message.ensures, c.in_ok-data.ensures, c.in_ok-id.ensures, c.unwrap_or-minimum.ensures, c.min_without.ensures)
    (sym (leave_sequenced _ c.args.id.now c.args.moment answer (joined_from c.row.result _ c.row.ensures c.if-is_none.ensures)))
