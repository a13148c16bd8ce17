use Rattle.std.proofs.Common.{◌++◌, ◌∷◌, []}
use Rattle.fluid_outbox.specs.Past.{Gave}
use Rattle.fluid_outbox.specs.Kept.{Stands, StandsFor, past_of}
use Rattle.fluid_outbox.proofs.Calls.{stands_with, on_ok, answered, gave, gave_none}
use Rattle.fluid_outbox.proofs.outbox.Outbox.next.Goals as goal

pub returns-clause-answer : goal.returns-clause-answer
returns-clause-answer c = λ calls stands. answered c.args.self.now (past_of calls) c.args.reference c.send.result stands c.send.ensures.answer

pub returns-clause-stands : goal.returns-clause-stands
returns-clause-stands c = λ calls given stands gives.
    on_ok (Stands c.send.new.self (Gave given ∷ past_of calls)) (StandsFor c.send.new.self (calls ++ Gave given ∷ [])) c.send.result
    (stands_with c.send.new.self calls (Gave given))
    (gave c.args.self.now c.send.new.self (past_of calls) c.args.reference given c.send.result stands gives c.send.ensures.answer c.send.ensures.kept)

pub returns-clause-none : goal.returns-clause-none
returns-clause-none c = gave_none c.args.self.now c.send.new.self c.send.result c.send.ensures.kept
