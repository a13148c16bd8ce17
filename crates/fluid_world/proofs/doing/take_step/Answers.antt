use Rattle.std.proofs.Common.{◌+◌, rules, refl, sym, ap, subst, ◌∙◌, ◌≡◌, ◌≤◌, None, length}
use Rattle.std.specs.FinMap.{get}
use Rattle.fluid_readback.specs.Laws.{longest_text}
use Rattle.fluid_steps.specs.declared.steps.Step.TheVariants as step
use Rattle.fluid_transcript.specs.Transcript.{done}
use Rattle.fluid_containers.specs.Stepping.{IsShort}
use Rattle.fluid_world.specs.Naming.{IsShortStep, container_refusal, refusal_by}
use Rattle.fluid_world.specs.Standing.{StepTakes}
use Rattle.fluid_world.proofs.Linked.{on_links, with_links, reading_links, one_links}
use Rattle.fluid_world.proofs.Stepped.{document_takes, scribe_takes, counted_ok, same_counted, edit_name, edit_reads}
use Rattle.fluid_world.proofs.doing.take_step.Goals as goal

pub returns-in-Scribe-clause-does : goal.returns-in-Scribe-clause-does
returns-in-Scribe-clause-does g c = λ w good stands own at.
    subst (λ s. StepTakes (done c.args.lanes.now.limits w s) c.scribe.new.lanes c.scribe.new.objects c.args.names.now.table.values c.one.result) (sym c.in-Scribe.is)
    (scribe_takes c.args.lanes.now.limits w (step.Scribe c.in-Scribe.name) c.args.lanes.now c.args.objects.now c.args.names.now.table.values stands refl c.steps_leave_others.ensures.others c.others_leave_containers.ensures c.containers_stay_based.ensures c.scribe.new.lanes c.scribe.new.objects c.scribe.result c.one.result refl
    (c.scribe.ensures.does w stands.desk stands.held at) c.one.ensures)

pub returns-in-Scribe-clause-runs : goal.returns-in-Scribe-clause-runs
returns-in-Scribe-clause-runs g c = λ first steps run.
    one_links first (steps + 1) c.args.objects.now c.scribe.new.objects c.scribe.new.lanes c.scribe.result c.one.result
    (with_links first (steps + 1) c.args.objects.now c.scribe.new.objects c.scribe.new.lanes c.scribe.result (c.scribe.ensures.runs first steps run)) c.one.ensures

pub returns-in-Scribe-clause-numbers : goal.returns-in-Scribe-clause-numbers
returns-in-Scribe-clause-numbers g c = counted_ok c.one.result (same_counted c.args.names.now.table.values)

pub returns-in-Checkpoint-clause-does : goal.returns-in-Checkpoint-clause-does
returns-in-Checkpoint-clause-does g c = λ w good stands own at.
    subst (λ s. StepTakes (done c.args.lanes.now.limits w s) c.checkpoint.new.lanes c.args.objects.now c.args.names.now.table.values c.one-in-Checkpoint.result) (sym c.in-Checkpoint.is)
    (document_takes c.args.lanes.now.limits w (step.Checkpoint c.in-Checkpoint.name) c.args.lanes.now c.args.objects.now c.args.names.now.table.values stands refl c.steps_leave_others.ensures.others c.others_leave_containers.ensures c.containers_stay_based.ensures c.checkpoint.new.lanes c.checkpoint.result c.one-in-Checkpoint.result refl tt
    c.steps_leave_others.ensures.store (c.checkpoint.ensures.does w stands.desk at) c.one-in-Checkpoint.ensures)

pub returns-in-Checkpoint-clause-runs : goal.returns-in-Checkpoint-clause-runs
returns-in-Checkpoint-clause-runs g c = λ first steps run.
    one_links first (steps + 1) c.args.objects.now c.args.objects.now c.checkpoint.new.lanes c.checkpoint.result c.one-in-Checkpoint.result
    (on_links first (steps + 1) c.args.objects.now c.args.objects.now c.checkpoint.new.lanes c.checkpoint.result (c.checkpoint.ensures.runs first steps run)) c.one-in-Checkpoint.ensures

pub returns-in-Checkpoint-clause-numbers : goal.returns-in-Checkpoint-clause-numbers
returns-in-Checkpoint-clause-numbers g c = counted_ok c.one-in-Checkpoint.result (same_counted c.args.names.now.table.values)

pub returns-in-Restart-clause-does : goal.returns-in-Restart-clause-does
returns-in-Restart-clause-does g c = λ w good stands own at.
    subst (λ s. StepTakes (done c.args.lanes.now.limits w s) c.restart.new.lanes c.args.objects.now c.args.names.now.table.values c.one-in-Restart.result) (sym c.in-Restart.is)
    (document_takes c.args.lanes.now.limits w (step.Restart c.in-Restart.name c.in-Restart.number) c.args.lanes.now c.args.objects.now c.args.names.now.table.values stands refl c.steps_leave_others.ensures.others c.others_leave_containers.ensures c.containers_stay_based.ensures c.restart.new.lanes c.restart.result c.one-in-Restart.result refl tt
    c.steps_leave_others.ensures.store (c.restart.ensures.does w stands.desk at) c.one-in-Restart.ensures)

pub returns-in-Restart-clause-runs : goal.returns-in-Restart-clause-runs
returns-in-Restart-clause-runs g c = λ first steps run.
    one_links first (steps + 1) c.args.objects.now c.args.objects.now c.restart.new.lanes c.restart.result c.one-in-Restart.result
    (on_links first (steps + 1) c.args.objects.now c.args.objects.now c.restart.new.lanes c.restart.result (c.restart.ensures.runs first steps run)) c.one-in-Restart.ensures

pub returns-in-Restart-clause-numbers : goal.returns-in-Restart-clause-numbers
returns-in-Restart-clause-numbers g c = counted_ok c.one-in-Restart.result (same_counted c.args.names.now.table.values)

pub returns-in-Reopen-clause-does : goal.returns-in-Reopen-clause-does
returns-in-Reopen-clause-does g c = λ w good stands own at.
    subst (λ s. StepTakes (done c.args.lanes.now.limits w s) c.reopen.new.lanes c.args.objects.now c.args.names.now.table.values c.one-in-Reopen.result) (sym c.in-Reopen.is)
    (document_takes c.args.lanes.now.limits w (step.Reopen c.in-Reopen.name) c.args.lanes.now c.args.objects.now c.args.names.now.table.values stands refl c.steps_leave_others.ensures.others c.others_leave_containers.ensures c.containers_stay_based.ensures c.reopen.new.lanes c.reopen.result c.one-in-Reopen.result refl tt
    c.steps_leave_others.ensures.store (c.reopen.ensures.does w stands.desk at) c.one-in-Reopen.ensures)

pub returns-in-Reopen-clause-runs : goal.returns-in-Reopen-clause-runs
returns-in-Reopen-clause-runs g c = λ first steps run.
    one_links first (steps + 1) c.args.objects.now c.args.objects.now c.reopen.new.lanes c.reopen.result c.one-in-Reopen.result
    (on_links first (steps + 1) c.args.objects.now c.args.objects.now c.reopen.new.lanes c.reopen.result (c.reopen.ensures.runs first steps run)) c.one-in-Reopen.ensures

pub returns-in-Reopen-clause-numbers : goal.returns-in-Reopen-clause-numbers
returns-in-Reopen-clause-numbers g c = counted_ok c.one-in-Reopen.result (same_counted c.args.names.now.table.values)

pub returns-in-Sweep-clause-does : goal.returns-in-Sweep-clause-does
returns-in-Sweep-clause-does g c = λ w good stands own at.
    subst (λ s. StepTakes (done c.args.lanes.now.limits w s) c.sweep.new.lanes c.args.objects.now c.args.names.now.table.values c.one-in-Sweep.result) (sym c.in-Sweep.is)
    (document_takes c.args.lanes.now.limits w (step.Sweep c.in-Sweep.name c.in-Sweep.silence) c.args.lanes.now c.args.objects.now c.args.names.now.table.values stands refl c.steps_leave_others.ensures.others c.others_leave_containers.ensures c.containers_stay_based.ensures c.sweep.new.lanes c.sweep.result c.one-in-Sweep.result refl tt
    c.steps_leave_others.ensures.store (c.sweep.ensures.does w stands.desk at) c.one-in-Sweep.ensures)

pub returns-in-Sweep-clause-runs : goal.returns-in-Sweep-clause-runs
returns-in-Sweep-clause-runs g c = λ first steps run.
    one_links first (steps + 1) c.args.objects.now c.args.objects.now c.sweep.new.lanes c.sweep.result c.one-in-Sweep.result
    (on_links first (steps + 1) c.args.objects.now c.args.objects.now c.sweep.new.lanes c.sweep.result (c.sweep.ensures.runs first steps run)) c.one-in-Sweep.ensures

pub returns-in-Sweep-clause-numbers : goal.returns-in-Sweep-clause-numbers
returns-in-Sweep-clause-numbers g c = counted_ok c.one-in-Sweep.result (same_counted c.args.names.now.table.values)

pub returns-in-Count-clause-does : goal.returns-in-Count-clause-does
returns-in-Count-clause-does g c = λ w good stands own at.
    subst (λ s. StepTakes (done c.args.lanes.now.limits w s) c.count.new.lanes c.args.objects.now c.args.names.now.table.values c.one-in-Count.result) (sym c.in-Count.is)
    (document_takes c.args.lanes.now.limits w (step.Count c.in-Count.name) c.args.lanes.now c.args.objects.now c.args.names.now.table.values stands refl c.steps_leave_others.ensures.others c.others_leave_containers.ensures c.containers_stay_based.ensures c.count.new.lanes c.count.result c.one-in-Count.result refl tt
    c.steps_leave_others.ensures.store (c.count.ensures.does w stands.desk at) c.one-in-Count.ensures)

pub returns-in-Count-clause-runs : goal.returns-in-Count-clause-runs
returns-in-Count-clause-runs g c = λ first steps run.
    one_links first (steps + 1) c.args.objects.now c.args.objects.now c.count.new.lanes c.count.result c.one-in-Count.result
    (on_links first (steps + 1) c.args.objects.now c.args.objects.now c.count.new.lanes c.count.result (c.count.ensures.runs first steps run)) c.one-in-Count.ensures

pub returns-in-Count-clause-numbers : goal.returns-in-Count-clause-numbers
returns-in-Count-clause-numbers g c = counted_ok c.one-in-Count.result (same_counted c.args.names.now.table.values)

pub returns-in-Tasks-clause-does : goal.returns-in-Tasks-clause-does
returns-in-Tasks-clause-does g c = λ w good stands own at.
    subst (λ s. StepTakes (done c.args.lanes.now.limits w s) c.tasks.new.lanes c.args.objects.now c.args.names.now.table.values c.one-in-Tasks.result) (sym c.in-Tasks.is)
    (document_takes c.args.lanes.now.limits w (step.Tasks c.in-Tasks.name) c.args.lanes.now c.args.objects.now c.args.names.now.table.values stands refl c.steps_leave_others.ensures.others c.others_leave_containers.ensures c.containers_stay_based.ensures c.tasks.new.lanes c.tasks.result c.one-in-Tasks.result refl tt
    c.steps_leave_others.ensures.store (c.tasks.ensures.does w stands.desk at) c.one-in-Tasks.ensures)

pub returns-in-Tasks-clause-runs : goal.returns-in-Tasks-clause-runs
returns-in-Tasks-clause-runs g c = λ first steps run.
    one_links first (steps + 1) c.args.objects.now c.args.objects.now c.tasks.new.lanes c.tasks.result c.one-in-Tasks.result
    (reading_links first (steps + 1) c.args.objects.now c.args.objects.now c.tasks.new.lanes c.tasks.result (c.tasks.ensures.runs first steps run)) c.one-in-Tasks.ensures

pub returns-in-Tasks-clause-numbers : goal.returns-in-Tasks-clause-numbers
returns-in-Tasks-clause-numbers g c = counted_ok c.one-in-Tasks.result (same_counted c.args.names.now.table.values)

pub returns-in-Send-clause-does : goal.returns-in-Send-clause-does
returns-in-Send-clause-does g c = λ w good stands own at.
    subst (λ s. StepTakes (done c.args.lanes.now.limits w s) c.send_as.new.lanes c.send_as.new.objects c.send_as.new.names.table.values c.send_as.result) (sym c.in-Send.is) (subst (λ t. StepTakes (done c.args.lanes.now.limits w (step.Send c.in-Send.name t)) c.send_as.new.lanes c.send_as.new.objects c.send_as.new.names.table.values c.send_as.result) c.as_str.ensures (c.send_as.ensures.does w stands at))

pub send_as-requires-clause-accepted : goal.send_as-requires-clause-accepted
send_as-requires-clause-accepted g c = subst (λ s. refusal_by c.args.names.now.table.values s ≡ None) c.in-Send.is c.requires.1.1.1.1.1.0

pub send_as-requires-clause-short : goal.send_as-requires-clause-short
send_as-requires-clause-short g c = subst (λ t. length t ≤ longest_text) (sym c.as_str.ensures) (subst IsShortStep c.in-Send.is c.requires.1.1.1.1.1.1.0)

pub returns-in-Collect-clause-does : goal.returns-in-Collect-clause-does
returns-in-Collect-clause-does g c = λ w good stands own at.
    subst (λ s. StepTakes (done c.args.lanes.now.limits w s) c.collect_as.new.lanes c.args.objects.now c.collect_as.new.names.table.values c.collect_as.result) (sym c.in-Collect.is) (c.collect_as.ensures.does w stands at)

pub collect_as-requires-clause-accepted : goal.collect_as-requires-clause-accepted
collect_as-requires-clause-accepted g c = subst (λ s. refusal_by c.args.names.now.table.values s ≡ None) c.in-Collect.is c.requires.1.1.1.1.1.0

pub returns-in-Close-clause-does : goal.returns-in-Close-clause-does
returns-in-Close-clause-does g c = λ w good stands own at.
    subst (λ s. StepTakes (done c.args.lanes.now.limits w s) c.close_as.new.lanes c.args.objects.now c.close_as.new.names.table.values c.close_as.result) (sym c.in-Close.is) (c.close_as.ensures.does w stands at)

pub close_as-requires-clause-accepted : goal.close_as-requires-clause-accepted
close_as-requires-clause-accepted g c = subst (λ s. refusal_by c.args.names.now.table.values s ≡ None) c.in-Close.is c.requires.1.1.1.1.1.0

pub returns-in-Load-clause-does : goal.returns-in-Load-clause-does
returns-in-Load-clause-does g c = λ w good stands own at.
    subst (λ s. StepTakes (done c.args.lanes.now.limits w s) c.load_as.new.lanes c.load_as.new.objects c.load_as.new.names.table.values c.load_as.result) (sym c.in-Load.is) (c.load_as.ensures.does w good stands at)

pub returns-in-Pump-clause-does : goal.returns-in-Pump-clause-does
returns-in-Pump-clause-does g c = λ w good stands own at.
    subst (λ s. StepTakes (done c.args.lanes.now.limits w s) c.pump_as.new.lanes c.pump_as.new.objects c.pump_as.new.names.table.values c.pump_as.result) (sym c.in-Pump.is) (c.pump_as.ensures.does w good stands at)

pub returns-in-Ok-clause-does : goal.returns-in-Ok-clause-does
returns-in-Ok-clause-does g c = λ w good stands own at.
    subst (λ s. StepTakes (done c.args.lanes.now.limits w s) c.edit_as.new.lanes c.edit_as.new.objects c.edit_as.new.names.table.values c.edit_as.result) (sym (c.in-Edit.is ∙ ap (step.Edit c.in-Edit.name) c.in-Ok.is)) (c.edit_as.ensures.does w good stands at)

pub edit_as-requires : goal.edit_as-requires
edit_as-requires g c =
    let accepted : container_refusal (get c.args.names.now.table.values c.in-Edit.name) ≡ None = edit_name c.in-Edit.op (container_refusal (get c.args.names.now.table.values c.in-Edit.name)) (subst (λ s. refusal_by c.args.names.now.table.values s ≡ None) c.in-Edit.is c.requires.1.1.1.1.1.0) in
    let short : IsShort c.in-Ok.op = subst IsShortStep (c.in-Edit.is ∙ ap (step.Edit c.in-Edit.name) c.in-Ok.is) c.requires.1.1.1.1.1.1.0 in
    search rules

pub returns-in-Beat-clause-does : goal.returns-in-Beat-clause-does
returns-in-Beat-clause-does g c = λ w good stands own at.
    subst (λ s. StepTakes (done c.args.lanes.now.limits w s) c.beat_as.new.lanes c.beat_as.new.objects c.beat_as.new.names.table.values c.beat_as.result) (sym c.in-Beat.is) (c.beat_as.ensures.does w good stands at)

pub beat_as-requires : goal.beat_as-requires
beat_as-requires g c =
    let accepted : container_refusal (get c.args.names.now.table.values c.in-Beat.name) ≡ None = subst (λ s. refusal_by c.args.names.now.table.values s ≡ None) c.in-Beat.is c.requires.1.1.1.1.1.0 in
    search rules

pub returns-in-Summarize-clause-does : goal.returns-in-Summarize-clause-does
returns-in-Summarize-clause-does g c = λ w good stands own at.
    subst (λ s. StepTakes (done c.args.lanes.now.limits w s) c.summarize_as.new.lanes c.summarize_as.new.objects c.summarize_as.new.names.table.values c.summarize_as.result) (sym c.in-Summarize.is) (c.summarize_as.ensures.does w good stands own at)

pub summarize_as-requires : goal.summarize_as-requires
summarize_as-requires g c =
    let accepted : container_refusal (get c.args.names.now.table.values c.in-Summarize.name) ≡ None = subst (λ s. refusal_by c.args.names.now.table.values s ≡ None) c.in-Summarize.is c.requires.1.1.1.1.1.0 in
    search rules

pub returns-in-Show-clause-does : goal.returns-in-Show-clause-does
returns-in-Show-clause-does g c = λ w good stands own at.
    subst (λ s. StepTakes (done c.args.lanes.now.limits w s) c.show_named.new.lanes c.args.objects.now c.args.names.now.table.values c.show_named.result) (sym c.in-Show.is) (c.show_named.ensures.does w stands at)

pub returns-in-Show-clause-numbers : goal.returns-in-Show-clause-numbers
returns-in-Show-clause-numbers g c = counted_ok c.show_named.result (same_counted c.args.names.now.table.values)

pub show_named-requires-clause-accepted : goal.show_named-requires-clause-accepted
show_named-requires-clause-accepted g c = subst (λ s. refusal_by c.args.names.now.table.values s ≡ None) c.in-Show.is c.requires.1.1.1.1.1.0

pub returns-in-Roam-clause-does : goal.returns-in-Roam-clause-does
returns-in-Roam-clause-does g c = λ w good stands own at.
    subst (λ s. StepTakes (done c.args.lanes.now.limits w s) c.roam_as.new.lanes c.roam_as.new.objects c.roam_as.new.names.table.values c.roam_as.result) (sym c.in-Roam.is) (c.roam_as.ensures.does w stands at)

pub roam_as-requires-clause-accepted : goal.roam_as-requires-clause-accepted
roam_as-requires-clause-accepted g c = subst (λ s. refusal_by c.args.names.now.table.values s ≡ None) c.in-Roam.is c.requires.1.1.1.1.1.0

pub returns-in-Say-clause-does : goal.returns-in-Say-clause-does
returns-in-Say-clause-does g c = λ w good stands own at.
    subst (λ s. StepTakes (done c.args.lanes.now.limits w s) c.say_as.new.lanes c.say_as.new.objects c.say_as.new.names.table.values c.say_as.result) (sym c.in-Say.is) (c.say_as.ensures.does w stands at)

pub say_as-requires-clause-accepted : goal.say_as-requires-clause-accepted
say_as-requires-clause-accepted g c = subst (λ s. refusal_by c.args.names.now.table.values s ≡ None) c.in-Say.is c.requires.1.1.1.1.1.0

pub say_as-requires-clause-short : goal.say_as-requires-clause-short
say_as-requires-clause-short g c = subst IsShortStep c.in-Say.is c.requires.1.1.1.1.1.1.0

pub returns-in-Lose-clause-does : goal.returns-in-Lose-clause-does
returns-in-Lose-clause-does g c = λ w good stands own at.
    subst (λ s. StepTakes (done c.args.lanes.now.limits w s) c.lose_as.new.lanes c.args.objects.now c.lose_as.new.names.table.values c.lose_as.result) (sym c.in-Lose.is) (c.lose_as.ensures.does w stands at)

pub lose_as-requires-clause-accepted : goal.lose_as-requires-clause-accepted
lose_as-requires-clause-accepted g c = subst (λ s. refusal_by c.args.names.now.table.values s ≡ None) c.in-Lose.is c.requires.1.1.1.1.1.0

pub returns-in-Back-clause-does : goal.returns-in-Back-clause-does
returns-in-Back-clause-does g c = λ w good stands own at.
    subst (λ s. StepTakes (done c.args.lanes.now.limits w s) c.back_as.new.lanes c.back_as.new.objects c.back_as.new.names.table.values c.back_as.result) (sym c.in-Back.is) (c.back_as.ensures.does w stands at)

pub back_as-requires-clause-accepted : goal.back_as-requires-clause-accepted
back_as-requires-clause-accepted g c = subst (λ s. refusal_by c.args.names.now.table.values s ≡ None) c.in-Back.is c.requires.1.1.1.1.1.0

pub returns-in-Acked-clause-does : goal.returns-in-Acked-clause-does
returns-in-Acked-clause-does g c = λ w good stands own at.
    subst (λ s. StepTakes (done c.args.lanes.now.limits w s) c.acked_as.new.lanes c.args.objects.now c.acked_as.new.names.table.values c.acked_as.result) (sym c.in-Acked.is) (c.acked_as.ensures.does w stands at)

pub acked_as-requires-clause-accepted : goal.acked_as-requires-clause-accepted
acked_as-requires-clause-accepted g c = subst (λ s. refusal_by c.args.names.now.table.values s ≡ None) c.in-Acked.is c.requires.1.1.1.1.1.0

pub unreachable-unreachable : goal.unreachable-unreachable
unreachable-unreachable g c = edit_reads c.in-Err.field-0 (container_refusal (get c.args.names.now.table.values c.in-Edit.name)) (subst (λ o. refusal_by c.args.names.now.table.values (step.Edit c.in-Edit.name o) ≡ None) c.in-Err.is (subst (λ s. refusal_by c.args.names.now.table.values s ≡ None) c.in-Edit.is c.requires.1.1.1.1.1.0))
