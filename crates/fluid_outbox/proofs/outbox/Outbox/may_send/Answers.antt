use Rattle.std.proofs.Common.{sym, ◌∙◌}
use Rattle.fluid_outbox.specs.Kept.{past_of}
use Rattle.fluid_outbox.proofs.Sending.{may_send_is}
use Rattle.fluid_outbox.proofs.outbox.Outbox.may_send.Goals as goal

pub returns-clause-answer : goal.returns-clause-answer
returns-clause-answer c = λ calls stands. c.sends.ensures ∙ sym (may_send_is c.args.self.now (past_of calls) stands)
