use Rattle.std.proofs.Common.{ap, ◌∙◌}
use Rattle.fluid_ticket.specs.State.{Sequencing, minimum}
use Rattle.fluid_ticket.proofs.Ledgers.{minimum_of}
use Rattle.fluid_ticket.proofs.sequencer.Sequencer.min.Goals as goal

pub returns-clause-stands : goal.returns-clause-stands
returns-clause-stands c = λ ledger stands. c.self.invariant.is_minimum ∙ ap (λ (q : Sequencing). minimum q.state) c.self.view_is ∙ minimum_of _ ledger stands
