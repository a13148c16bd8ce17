use Rattle.std.proofs.Common.{◌++◌, ◌∷◌, [], sym, subst}
use Rattle.fluid_outbox.specs.Past.{Heard}
use Rattle.fluid_outbox.specs.Kept.{AnOutbox, StandsFor, past_of, after_heard}
use Rattle.fluid_outbox.proofs.Hearing.{stands_heard}
use Rattle.fluid_outbox.proofs.Calls.{stands_with}
use Rattle.fluid_outbox.proofs.outbox.Outbox.heard.Goals as goal

pub returns-clause-stands : goal.returns-clause-stands
returns-clause-stands c = λ calls stands.
    subst (λ (o : AnOutbox). StandsFor o (calls ++ Heard c.args.message.now ∷ [])) (sym c.hear.ensures)
    (stands_with (after_heard c.args.self.now c.args.message.now) calls (Heard c.args.message.now) (stands_heard c.args.self.now (past_of calls) c.args.message.now stands))
