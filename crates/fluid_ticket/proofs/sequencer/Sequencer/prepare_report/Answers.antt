use Rattle.std.proofs.Common.{sym, ap, ◌∙◌, arith}
use Rattle.fluid_ticket.specs.State.{Sequencing}
use Rattle.fluid_ticket.proofs.Prepares.{beyond_dropped, dropped_at, acknowledged_at, refused_at}
use Rattle.fluid_ticket.proofs.sequencer.Sequencer.prepare_report.Goals as goal

pub returns-then-summary-self : goal.returns-then-summary-self
returns-then-summary-self c = λ found.
    c.new.ensures
    ∙ sym (beyond_dropped _ c.args.summary found c.args.moment c.args.answer.now (omega (arith, c.if-summary-self.true, ap (λ (q : Sequencing). q.state.sequence) c.self.view_is)))

pub returns-in-Dropped : goal.returns-in-Dropped
returns-in-Dropped c = λ found.
    c.new-in-Dropped.ensures
    ∙ sym (dropped_at _ c.args.summary found c.args.moment c.args.answer.now
    (omega (arith, c.if-summary-self.false, ap (λ (q : Sequencing). q.state.sequence) c.self.view_is)) c.in-Dropped.is)

pub returns-in-Ack : goal.returns-in-Ack
returns-in-Ack c = λ found.
    rw (acknowledged_at c.args.self.now.state c.args.summary found c.args.moment c.args.answer.now c.in-Ack.handle
    (omega (arith, c.if-summary-self.false, ap (λ (q : Sequencing). q.state.sequence) c.self.view_is)) c.in-Ack.is) c.acknowledge.ensures

pub returns-in-Refused : goal.returns-in-Refused
returns-in-Refused c = λ found.
    rw (refused_at c.args.self.now.state c.args.summary found c.args.moment c.args.answer.now c.in-Refused.rule
    (omega (arith, c.if-summary-self.false, ap (λ (q : Sequencing). q.state.sequence) c.self.view_is)) c.in-Refused.is) c.refuse_summary.ensures
