use Rattle.std.proofs.Common.{◌≡◌, None, sym, subst}
use Rattle.std.specs.FinMap.{get}
use Rattle.fluid_steps.specs.declared.steps.Step.TheVariants as step
use Rattle.fluid_transcript.specs.Steps.{refusal_of_edit}
use Rattle.fluid_transcript.specs.Transcript.{done}
use Rattle.fluid_world.specs.Naming.{IsShortStep, roamer_refusal}
use Rattle.fluid_world.specs.Standing.{StepTakes}
use Rattle.fluid_world.proofs.Stepped.{edit_name, edit_reads}
use Rattle.fluid_world.proofs.roaming.say_as.Goals as goal

pub returns-clause-does : goal.returns-clause-does
returns-clause-does g c = λ w stands at.
    subst (λ o. StepTakes (done c.args.lanes.now.limits w (step.Say c.args.name.now o)) c.say_edit.new.lanes c.say_edit.new.objects c.say_edit.new.names.table.values c.say_edit.result) (sym c.in-Ok.is) (c.say_edit.ensures.does w stands at)

pub say_edit-requires-clause-accepted : goal.say_edit-requires-clause-accepted
say_edit-requires-clause-accepted g c = edit_name c.args.op (roamer_refusal (get c.args.names.now.table.values c.args.name.now)) c.requires.accepted

pub say_edit-requires-clause-short : goal.say_edit-requires-clause-short
say_edit-requires-clause-short g c = subst (λ o. IsShortStep (step.Say c.args.name.now o)) c.in-Ok.is c.requires.short

pub unreachable-unreachable : goal.unreachable-unreachable
unreachable-unreachable g c = edit_reads c.in-Err.field-0 (roamer_refusal (get c.args.names.now.table.values c.args.name.now)) (subst (λ o. refusal_of_edit o (roamer_refusal (get c.args.names.now.table.values c.args.name.now)) ≡ None) c.in-Err.is c.requires.accepted)
