use Rattle.std.proofs.Common.{ap, subst, ◌∙◌}
use Rattle.fluid_ticket.specs.State.{Sequencing, IsSound}
use Rattle.fluid_ticket.proofs.Ledgers.{number_of}
use Rattle.fluid_ticket.proofs.sequencer.Sequencer.seq.Goals as goal

pub returns-clause-stands : goal.returns-clause-stands
returns-clause-stands c = λ ledger stands. ap (λ (q : Sequencing). q.state.sequence) c.self.view_is ∙ number_of _ ledger stands

pub returns-clause-sound : goal.returns-clause-sound
returns-clause-sound c = subst (λ (q : Sequencing). IsSound q.state) c.self.view_is c.self.invariant.sound
