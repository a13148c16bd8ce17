use Rattle.std.proofs.Common.{◌≡◌, ◌++◌, ◌∷◌, [], sym, subst}
use Rattle.fluid_outbox.specs.Past.{Pushed}
use Rattle.fluid_outbox.specs.Kept.{AnOutbox, StandsFor, past_of, with_edit}
use Rattle.fluid_outbox.proofs.Stands.{stands_pushed}
use Rattle.fluid_outbox.proofs.Calls.{stands_with, numbered, on_ok}
use Rattle.fluid_outbox.proofs.outbox.Outbox.push.Goals as goal

pub returns-clause-number : goal.returns-clause-number
returns-clause-number c = λ calls stands. numbered c.args.self.now (past_of calls) c.add.result stands c.add.ensures.number

pub returns-clause-stands : goal.returns-clause-stands
returns-clause-stands c = λ calls stands.
    on_ok (c.add.new.self ≡ with_edit c.args.self.now c.args.contents) (StandsFor c.add.new.self (calls ++ Pushed c.args.contents ∷ [])) c.add.result
    (λ kept.
    subst (λ (o : AnOutbox). StandsFor o (calls ++ Pushed c.args.contents ∷ [])) (sym kept)
    (stands_with (with_edit c.args.self.now c.args.contents) calls (Pushed c.args.contents) (stands_pushed c.args.self.now (past_of calls) c.args.contents stands)))
    c.add.ensures.kept
