use Rattle.std.proofs.Common.{refl, sym, ap, subst, ◌∙◌}
use Rattle.std.specs.FinMap.{insert}
use Rattle.fluid_table.proofs.Places.{get_own}
use Rattle.fluid_steps.specs.declared.steps.Step.TheVariants as step
use Rattle.fluid_transcript.specs.Transcript.{done}
use Rattle.fluid_world.specs.declared.named.Named.TheVariants as a
use Rattle.fluid_world.specs.Standing.{StepTakes}
use Rattle.std.proofs.Common.{◌+◌}
use Rattle.fluid_world.specs.Naming.{AreBounded}
use Rattle.fluid_world.proofs.Linked.{reading_links}
use Rattle.fluid_world.proofs.Stepped.{voice_in, gather_takes, put_stay, there_put, voice_put_counted, counted_ok}
use Rattle.fluid_world.proofs.calling.collect_as.Goals as goal

pub returns-clause-does : goal.returns-clause-does
returns-clause-does g c = λ w stands at.
    let s = step.Collect c.args.name.now in
    let has = voice_in c.args.lanes.now c.args._objects.now c.args.names.now.table.values w c.args.name.now c.take_voice-voice.result stands c.take_voice-voice.ensures.there in
    let given = insert (insert c.args.names.now.table.values c.args.name.now a.Used) c.args.name.now (a.Connection c.collect-lines.new.voice) in
    subst (λ given. StepTakes (done c.args.lanes.now.limits w s) c.collect-lines.new.lanes c.args._objects.now given c.collect-lines.result) (sym (c.put.ensures ∙ ap (λ t. insert t c.args.name.now (a.Connection c.collect-lines.new.voice)) c.take_voice-voice.ensures.left))
    (gather_takes c.args.lanes.now.limits w s c.args.lanes.now c.args._objects.now c.args.names.now.table.values stands c.requires.accepted c.steps_leave_others.ensures.others c.others_leave_containers.ensures c.containers_stay_based.ensures c.args.name.now
    given c.collect-lines.new.voice c.collect-lines.new.lanes c.collect-lines.result refl tt c.steps_leave_others.ensures.store
    (put_stay c.args.names.now.table.values c.args.name.now a.Used (a.Connection c.collect-lines.new.voice)) (get_own (insert c.args.names.now.table.values c.args.name.now a.Used) c.args.name.now (a.Connection c.collect-lines.new.voice))
    (c.collect-lines.ensures.does w stands.desk has.sound has.is at))

pub returns-clause-runs : goal.returns-clause-runs
returns-clause-runs g c = λ first steps run. reading_links first (steps + 1) c.args._objects.now c.args._objects.now c.collect-lines.new.lanes c.collect-lines.result (c.collect-lines.ensures.runs first steps run)

pub returns-clause-numbers : goal.returns-clause-numbers
returns-clause-numbers g c = counted_ok c.collect-lines.result (λ n few.
    subst (AreBounded (n + 1)) (sym (c.put.ensures ∙ ap (λ t. insert t c.args.name.now (a.Connection c.collect-lines.new.voice)) c.take_voice-voice.ensures.left)) (voice_put_counted c.args.names.now.table.values c.args.name.now c.collect-lines.new.voice n few))

pub put-requires : goal.put-requires
put-requires g c = there_put c.args.names.now.table.values c.take_voice-voice.new.self.table.values c.args.name.now a.Used c.take_voice-voice.ensures.left
