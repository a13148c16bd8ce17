use Rattle.std.proofs.Common.{◌++◌, ◌∷◌, [], sym, subst}
use Rattle.fluid_outbox.specs.Past.{Joined}
use Rattle.fluid_outbox.specs.Kept.{AnOutbox, StandsFor, past_of, with_id}
use Rattle.fluid_outbox.proofs.Stands.{none_current, stands_joined}
use Rattle.fluid_outbox.proofs.Calls.{stands_with}
use Rattle.fluid_outbox.proofs.outbox.Outbox.joined.Goals as goal

pub returns-clause-stands : goal.returns-clause-stands
returns-clause-stands c = λ calls stands new.
    subst (λ (o : AnOutbox). StandsFor o (calls ++ Joined c.args.id ∷ [])) (sym c.begin.ensures)
    (stands_with (with_id c.args.self.now c.args.id) calls (Joined c.args.id) (stands_joined c.args.self.now (past_of calls) c.args.id stands (none_current c.args.self.now.current c.requires) new))
