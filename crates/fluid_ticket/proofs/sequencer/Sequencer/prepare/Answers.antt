use Rattle.std.proofs.Common.{ap, subst, ◌∙◌}
use Rattle.fluid_clients.specs.Table.{Rows}
use Rattle.fluid_ticket.specs.State.{Sequencing, IsSound}
use Rattle.fluid_ticket.proofs.Prepares.{ready_in}
use Rattle.fluid_ticket.proofs.Commits.{bounded_in}
use Rattle.fluid_ticket.proofs.Heard.{verdict_of_heard, verdict_of_legal}
use Rattle.fluid_ticket.proofs.sequencer.Sequencer.prepare.Goals as goal

pub returns-in-Join-clause-verdict : goal.returns-in-Join-clause-verdict
returns-in-Join-clause-verdict c = λ ledger stands answered.
    verdict_of_heard c.prepare_join.result _ _ c.args.answer.now _ _ ledger (c.prepare_join.ensures c.args.answer.now)
    (ap (λ (rows : Rows). record { sequence = c.self.inside.sequence; last_minimum = c.self.inside.last_minimum; rows = rows }) c.in_ok-reserve.ensures.same ∙ ap (λ (q : Sequencing). q.state) c.self.view_is) c.in-Join.is stands answered

pub returns-in-Leave-clause-verdict : goal.returns-in-Leave-clause-verdict
returns-in-Leave-clause-verdict c = λ ledger stands answered.
    verdict_of_heard c.prepare_leave.result _ _ c.args.answer.now _ _ ledger (c.prepare_leave.ensures c.args.answer.now)
    (ap (λ (rows : Rows). record { sequence = c.self.inside.sequence; last_minimum = c.self.inside.last_minimum; rows = rows }) c.in_ok-reserve.ensures.same ∙ ap (λ (q : Sequencing). q.state) c.self.view_is) c.in-Leave.is stands answered

pub returns-in-Submit-clause-verdict : goal.returns-in-Submit-clause-verdict
returns-in-Submit-clause-verdict c = λ ledger stands answered.
    verdict_of_heard c.prepare_submission.result _ _ c.args.answer.now _ _ ledger (c.prepare_submission.ensures c.args.answer.now)
    (ap (λ (rows : Rows). record { sequence = c.self.inside.sequence; last_minimum = c.self.inside.last_minimum; rows = rows }) c.in_ok-reserve.ensures.same ∙ ap (λ (q : Sequencing). q.state) c.self.view_is) c.in-Submit.is stands answered

pub returns-in-Report-clause-verdict : goal.returns-in-Report-clause-verdict
returns-in-Report-clause-verdict c = λ ledger stands answered.
    verdict_of_heard c.prepare_report.result _ _ c.args.answer.now _ _ ledger (c.prepare_report.ensures c.in-Report.found)
    (ap (λ (rows : Rows). record { sequence = c.self.inside.sequence; last_minimum = c.self.inside.last_minimum; rows = rows }) c.in_ok-reserve.ensures.same ∙ ap (λ (q : Sequencing). q.state) c.self.view_is) c.in-Report.is stands answered

pub returns-in-Join-clause-committable : goal.returns-in-Join-clause-committable
returns-in-Join-clause-committable c =
    ready_in c.prepare_join.result _ c.args.answer.now _ (c.prepare_join.ensures c.args.answer.now) (rw (← c.self.view_is) at c.requires.few) c.in_ok-reserve.ensures.room

pub returns-in-Leave-clause-committable : goal.returns-in-Leave-clause-committable
returns-in-Leave-clause-committable c =
    ready_in c.prepare_leave.result _ c.args.answer.now _ (c.prepare_leave.ensures c.args.answer.now) (rw (← c.self.view_is) at c.requires.few) c.in_ok-reserve.ensures.room

pub returns-in-Submit-clause-committable : goal.returns-in-Submit-clause-committable
returns-in-Submit-clause-committable c =
    ready_in c.prepare_submission.result _ c.args.answer.now _ (c.prepare_submission.ensures c.args.answer.now) (rw (← c.self.view_is) at c.requires.few) c.in_ok-reserve.ensures.room

pub returns-in-Report-clause-committable : goal.returns-in-Report-clause-committable
returns-in-Report-clause-committable c =
    ready_in c.prepare_report.result _ _ _ (c.prepare_report.ensures c.in-Report.found) (rw (← c.self.view_is) at c.requires.few) c.in_ok-reserve.ensures.room

pub returns-in-Join-clause-bounded : goal.returns-in-Join-clause-bounded
returns-in-Join-clause-bounded c =
    bounded_in c.prepare_join.result _ _ c.args.answer.now _ (c.prepare_join.ensures c.args.answer.now)
    (ap (λ (rows : Rows). record { sequence = c.self.inside.sequence; last_minimum = c.self.inside.last_minimum; rows = rows }) c.in_ok-reserve.ensures.same ∙ ap (λ (q : Sequencing). q.state) c.self.view_is)
    (subst (λ (q : Sequencing). IsSound q.state) c.self.view_is c.self.invariant.sound) c.requires.few

pub returns-in-Leave-clause-bounded : goal.returns-in-Leave-clause-bounded
returns-in-Leave-clause-bounded c =
    bounded_in c.prepare_leave.result _ _ c.args.answer.now _ (c.prepare_leave.ensures c.args.answer.now)
    (ap (λ (rows : Rows). record { sequence = c.self.inside.sequence; last_minimum = c.self.inside.last_minimum; rows = rows }) c.in_ok-reserve.ensures.same ∙ ap (λ (q : Sequencing). q.state) c.self.view_is)
    (subst (λ (q : Sequencing). IsSound q.state) c.self.view_is c.self.invariant.sound) c.requires.few

pub returns-in-Submit-clause-bounded : goal.returns-in-Submit-clause-bounded
returns-in-Submit-clause-bounded c =
    bounded_in c.prepare_submission.result _ _ c.args.answer.now _ (c.prepare_submission.ensures c.args.answer.now)
    (ap (λ (rows : Rows). record { sequence = c.self.inside.sequence; last_minimum = c.self.inside.last_minimum; rows = rows }) c.in_ok-reserve.ensures.same ∙ ap (λ (q : Sequencing). q.state) c.self.view_is)
    (subst (λ (q : Sequencing). IsSound q.state) c.self.view_is c.self.invariant.sound) c.requires.few

pub returns-in-Report-clause-bounded : goal.returns-in-Report-clause-bounded
returns-in-Report-clause-bounded c =
    bounded_in c.prepare_report.result _ _ _ _ (c.prepare_report.ensures c.in-Report.found)
    (ap (λ (rows : Rows). record { sequence = c.self.inside.sequence; last_minimum = c.self.inside.last_minimum; rows = rows }) c.in_ok-reserve.ensures.same ∙ ap (λ (q : Sequencing). q.state) c.self.view_is)
    (subst (λ (q : Sequencing). IsSound q.state) c.self.view_is c.self.invariant.sound) c.requires.few

pub returns-in-Join-clause-legal : goal.returns-in-Join-clause-legal
returns-in-Join-clause-legal c = λ ledger legal stands answered.
    verdict_of_legal c.prepare_join.result _ _ c.args.answer.now _ _ ledger (c.prepare_join.ensures c.args.answer.now)
    (ap (λ (rows : Rows). record { sequence = c.self.inside.sequence; last_minimum = c.self.inside.last_minimum; rows = rows }) c.in_ok-reserve.ensures.same ∙ ap (λ (q : Sequencing). q.state) c.self.view_is) c.in-Join.is legal stands answered

pub returns-in-Leave-clause-legal : goal.returns-in-Leave-clause-legal
returns-in-Leave-clause-legal c = λ ledger legal stands answered.
    verdict_of_legal c.prepare_leave.result _ _ c.args.answer.now _ _ ledger (c.prepare_leave.ensures c.args.answer.now)
    (ap (λ (rows : Rows). record { sequence = c.self.inside.sequence; last_minimum = c.self.inside.last_minimum; rows = rows }) c.in_ok-reserve.ensures.same ∙ ap (λ (q : Sequencing). q.state) c.self.view_is) c.in-Leave.is legal stands answered

pub returns-in-Submit-clause-legal : goal.returns-in-Submit-clause-legal
returns-in-Submit-clause-legal c = λ ledger legal stands answered.
    verdict_of_legal c.prepare_submission.result _ _ c.args.answer.now _ _ ledger (c.prepare_submission.ensures c.args.answer.now)
    (ap (λ (rows : Rows). record { sequence = c.self.inside.sequence; last_minimum = c.self.inside.last_minimum; rows = rows }) c.in_ok-reserve.ensures.same ∙ ap (λ (q : Sequencing). q.state) c.self.view_is) c.in-Submit.is legal stands answered

pub returns-in-Report-clause-legal : goal.returns-in-Report-clause-legal
returns-in-Report-clause-legal c = λ ledger legal stands answered.
    verdict_of_legal c.prepare_report.result _ _ c.args.answer.now _ _ ledger (c.prepare_report.ensures c.in-Report.found)
    (ap (λ (rows : Rows). record { sequence = c.self.inside.sequence; last_minimum = c.self.inside.last_minimum; rows = rows }) c.in_ok-reserve.ensures.same ∙ ap (λ (q : Sequencing). q.state) c.self.view_is) c.in-Report.is legal stands answered
