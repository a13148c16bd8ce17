use Rattle.std.proofs.Common.{sym, ◌∙◌}
use Rattle.fluid_lines.proofs.Answers.{quiet_is, answers_quiet, answers_text}
use Rattle.fluid_lines.specs.contracts.memory.MemoryWire.{the_view as view_of}
use Rattle.fluid_lines.proofs.memory.MemoryWireWire.recv.Goals as goal

pub returns-then-contains-clause-answer : goal.returns-then-contains-clause-answer
returns-then-contains-clause-answer g c =
    answers_quiet _ _ c.self.view_is (sym c.fails.ensures.answer ∙ c.if-fails.false)
    (quiet_is (view_of c.self.inside) _ _ _ _ (c.calls.ensures ∙ c.fails.ensures.calls) c.deref.ensures.value c.contains.ensures.value c.if-contains.true)

pub returns-clause-answer : goal.returns-clause-answer
returns-clause-answer g c =
    answers_text _ _ _ c.self.view_is (sym c.fails.ensures.answer ∙ c.if-fails.false)
    (quiet_is (view_of c.self.inside) _ _ _ _ (c.calls.ensures ∙ c.fails.ensures.calls) c.deref.ensures.value c.contains.ensures.value c.if-contains.false)
    c.take_next.ensures.answer
