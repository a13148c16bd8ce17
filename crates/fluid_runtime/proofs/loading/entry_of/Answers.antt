use Rattle.std.proofs.Common.{ap, ◌∙◌, sym}
use Rattle.std.specs.Prelude.{is_some}
use Rattle.fluid_runtime.specs.Loaded.{read_object}
use Rattle.fluid_runtime.proofs.Reading.{stands_already, name_read, entry_read}
use Rattle.fluid_runtime.proofs.Told.{some_mapped, on_ok_so}
use Rattle.fluid_runtime.proofs.loading.entry_of.Goals as goal

pub returns-then-is_some-clause-answer : goal.returns-then-is_some-clause-answer
returns-then-is_some-clause-answer c =
    stands_already c.args.slots.now.values c.args.name.now c.args.node.now c.fault.result
    (ap is_some (sym c.get.ensures) ∙ some_mapped _ c.get.result ∙ sym c.is_some.ensures ∙ c.if-is_some.true) c.fault.ensures

pub returns-in-Some-clause-answer : goal.returns-in-Some-clause-answer
returns-in-Some-clause-answer c =
    entry_read c.args.slots.now.values c.args.name.now c.args.node.now _ (read_object c.object_of.result) (name_read c.args.name.now _ c.in-Ok.ensures)
    (ap is_some (sym c.get.ensures) ∙ some_mapped _ c.get.result ∙ sym c.is_some.ensures ∙ c.if-is_some.false) c.in-Some.ensures c.object_of.ensures.answer

pub returns-in-Some-clause-name : goal.returns-in-Some-clause-name
returns-in-Some-clause-name c = on_ok_so c.object_of.result (name_read c.args.name.now _ c.in-Ok.ensures)
