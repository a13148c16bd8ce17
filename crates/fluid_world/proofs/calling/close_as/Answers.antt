use Rattle.std.proofs.Common.{refl, sym, subst}
use Rattle.std.specs.FinMap.{insert}
use Rattle.fluid_table.proofs.Places.{get_own}
use Rattle.fluid_steps.specs.declared.steps.Step.TheVariants as step
use Rattle.fluid_transcript.specs.Transcript.{done}
use Rattle.fluid_world.specs.declared.named.Named.TheVariants as a
use Rattle.fluid_world.specs.Standing.{StepTakes}
use Rattle.std.proofs.Common.{◌+◌}
use Rattle.fluid_world.specs.Naming.{AreBounded}
use Rattle.fluid_world.proofs.Linked.{on_links, one_links}
use Rattle.fluid_world.proofs.Stepped.{voice_in, close_takes, given_stay, used_counted, counted_ok}
use Rattle.fluid_world.proofs.calling.close_as.Goals as goal

pub returns-clause-does : goal.returns-clause-does
returns-clause-does g c = λ w stands at.
    let s = step.Close c.args.name.now in
    let has = voice_in c.args.lanes.now c.args._objects.now c.args.names.now.table.values w c.args.name.now c.take_voice-voice.result stands c.take_voice-voice.ensures.there in
    subst (λ given. StepTakes (done c.args.lanes.now.limits w s) c.close.new.lanes c.args._objects.now given c.one.result) (sym c.take_voice-voice.ensures.left)
    (close_takes c.args.lanes.now.limits w s c.args.lanes.now c.args._objects.now c.args.names.now.table.values stands c.requires.accepted c.steps_leave_others.ensures.others c.others_leave_containers.ensures c.containers_stay_based.ensures c.args.name.now
    (insert c.args.names.now.table.values c.args.name.now a.Used) c.close.new.lanes c.close.result c.one.result refl tt c.steps_leave_others.ensures.store
    (given_stay c.args.names.now.table.values c.args.name.now a.Used) (get_own c.args.names.now.table.values c.args.name.now a.Used)
    (c.close.ensures.does w stands.desk has.sound has.is at) c.one.ensures)

pub returns-clause-runs : goal.returns-clause-runs
returns-clause-runs g c = λ first steps run.
    one_links first (steps + 1) c.args._objects.now c.args._objects.now c.close.new.lanes c.close.result c.one.result
    (on_links first (steps + 1) c.args._objects.now c.args._objects.now c.close.new.lanes c.close.result (c.close.ensures.runs first steps run)) c.one.ensures

pub returns-clause-numbers : goal.returns-clause-numbers
returns-clause-numbers g c = counted_ok c.one.result (λ n few. subst (AreBounded (n + 1)) (sym c.take_voice-voice.ensures.left) (used_counted c.args.names.now.table.values c.args.name.now n few))
