use Rattle.std.proofs.Common.{◌++◌, ◌∷◌, [], sym, subst}
use Rattle.fluid_outbox.specs.Past.{Lost}
use Rattle.fluid_outbox.specs.Kept.{AnOutbox, StandsFor, past_of, after_lost}
use Rattle.fluid_outbox.proofs.Stands.{stands_lost}
use Rattle.fluid_outbox.proofs.Calls.{stands_with}
use Rattle.fluid_outbox.proofs.outbox.Outbox.lost.Goals as goal

pub returns-clause-stands : goal.returns-clause-stands
returns-clause-stands c = λ calls stands.
    subst (λ (o : AnOutbox). StandsFor o (calls ++ Lost ∷ [])) (sym c.end.ensures)
    (stands_with (after_lost c.args.self.now) calls Lost (stands_lost c.args.self.now (past_of calls) stands))
