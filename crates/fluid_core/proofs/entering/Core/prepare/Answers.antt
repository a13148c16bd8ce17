use Rattle.std.proofs.Common.{ap, ◌∙◌}
use Rattle.fluid_quorum.specs.declared.state.ScribeState.{ScribeState}
use Rattle.fluid_ticket.specs.State as ticket
use Rattle.fluid_core.specs.Entering.{State, note_for}
use Rattle.fluid_core.proofs.Entered.{same_state, prepared-is, ready_in, has_room, ready-verdict}
use Rattle.fluid_core.proofs.entering.Core.prepare.Goals as goal

pub returns-clause-ready : goal.returns-clause-ready
returns-clause-ready c =
    let s : State = record { sequencer = c.self.inside.sequencer.state; scribe = c.self.inside.scribe.state } in
    let is = c.in_ok-ready.ensures.ready ∙ ap (λ a. ticket.prepared s.sequencer (ticket.heard s.sequencer c.args.raw.now a) c.args.raw.now) c.in_ok-answer.ensures.answer in
    rw (← c.self.view_is)
    (prepared-is s c.args.raw.now _ _ is
    (c.in_ok-note.ensures.note
    ∙ ap (λ (t : ScribeState). note_for t c.verdict.result.now) c.in_ok-answer.ensures.same
    ∙ ap (note_for s.scribe) c.verdict.ensures))

pub returns-clause-committable : goal.returns-clause-committable
returns-clause-committable c =
    ready_in _ _ c.args.raw.now _ (rw (← c.self.view_is) at (returns-clause-ready c))
    (same_state _ _ c.in_ok-ready.ensures.same (c.in_ok-note.ensures.same ∙ c.in_ok-answer.ensures.same))
    (rw c.in_ok-ready.ensures.same (rw (← c.self.view_is) at c.requires.few))
    c.in_ok-ready.ensures.committable.room
    (has_room _ _ c.in_ok-note.ensures.takable)

pub returns-clause-verdict : goal.returns-clause-verdict
returns-clause-verdict c = λ ledger stands. ready-verdict c.args.self.now.state c.args.raw.now _ ledger (returns-clause-ready c) stands
