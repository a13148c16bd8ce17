use Rattle.std.proofs.Common.{refl, sym, ap, subst, ◌∙◌}
use Rattle.std.specs.FinMap.{insert}
use Rattle.fluid_table.proofs.Places.{get_own}
use Rattle.fluid_steps.specs.declared.steps.Step.TheVariants as step
use Rattle.fluid_transcript.specs.Transcript.{done}
use Rattle.fluid_world.specs.declared.named.Named.TheVariants as a
use Rattle.fluid_world.specs.Standing.{StepTakes}
use Rattle.std.proofs.Common.{◌+◌}
use Rattle.fluid_world.specs.Naming.{sender_refusal, AreBounded}
use Rattle.fluid_world.proofs.Linked.{hearing_links}
use Rattle.fluid_world.proofs.Stepped.{voice_in, call_takes, put_stay, there_put, voice_put_counted, counted_ok}
use Rattle.fluid_world.proofs.calling.send_again.Goals as goal

pub returns-clause-does : goal.returns-clause-does
returns-clause-does g c = λ w stands at.
    let s = step.Send c.args.name.now c.args.text.now in
    let has = voice_in c.args.lanes.now c.args.objects.now c.args.names.now.table.values w c.args.name.now c.take_voice-voice.result stands c.take_voice-voice.ensures.there in
    let given = insert (insert c.args.names.now.table.values c.args.name.now a.Used) c.args.name.now (a.Connection c.send-lines.new.voice) in
    subst (λ given. StepTakes (done c.args.lanes.now.limits w s) c.send-lines.new.lanes c.send-lines.new.objects given c.send-lines.result) (sym (c.put.ensures ∙ ap (λ t. insert t c.args.name.now (a.Connection c.send-lines.new.voice)) c.take_voice-voice.ensures.left))
    (call_takes c.args.lanes.now.limits w s c.args.lanes.now c.args.objects.now c.args.names.now.table.values stands (ap sender_refusal c.take_voice-voice.ensures.there) c.steps_leave_others.ensures.others c.others_leave_containers.ensures c.containers_stay_based.ensures c.args.name.now
    given c.send-lines.new.voice c.send-lines.new.lanes c.send-lines.new.objects c.send-lines.result refl
    (put_stay c.args.names.now.table.values c.args.name.now a.Used (a.Connection c.send-lines.new.voice)) (get_own (insert c.args.names.now.table.values c.args.name.now a.Used) c.args.name.now (a.Connection c.send-lines.new.voice))
    (c.send-lines.ensures.does w stands.desk stands.held has.sound has.is at))

pub returns-clause-runs : goal.returns-clause-runs
returns-clause-runs g c = λ first steps run. hearing_links first (steps + 1) c.args.objects.now c.send-lines.new.objects c.send-lines.new.lanes c.send-lines.result (c.send-lines.ensures.runs first steps run)

pub returns-clause-numbers : goal.returns-clause-numbers
returns-clause-numbers g c = counted_ok c.send-lines.result (λ n few.
    subst (AreBounded (n + 1)) (sym (c.put.ensures ∙ ap (λ t. insert t c.args.name.now (a.Connection c.send-lines.new.voice)) c.take_voice-voice.ensures.left)) (voice_put_counted c.args.names.now.table.values c.args.name.now c.send-lines.new.voice n few))

pub put-requires : goal.put-requires
put-requires g c = there_put c.args.names.now.table.values c.take_voice-voice.new.self.table.values c.args.name.now a.Used c.take_voice-voice.ensures.left
