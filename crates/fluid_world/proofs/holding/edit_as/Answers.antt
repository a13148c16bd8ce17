use Rattle.std.proofs.Common.{refl, sym, ap, subst, ◌∙◌, Ok, rules, ◌<◌}
use Rattle.fluid_types.specs.Forms.{largest}
use Rattle.std.specs.FinMap.{get, insert}
use Rattle.fluid_table.proofs.Places.{get_own}
use Rattle.fluid_steps.specs.declared.steps.Step.TheVariants as step
use Rattle.fluid_transcript.specs.Transcript.{done}
use Rattle.fluid_world.specs.declared.named.Named.TheVariants as a
use Rattle.fluid_world.specs.Standing.{StepTakes}
use Rattle.std.proofs.Common.{◌+◌}
use Rattle.fluid_transcript.specs.Steps.{refusal_of_edit}
use Rattle.fluid_world.specs.Naming.{AreBounded}
use Rattle.fluid_world.proofs.Linked.{one_links}
use Rattle.fluid_world.proofs.Stepped.{holder_there, step_takes, put_stay, there_put, holder_counted, counted_ok, few_last}
use Rattle.fluid_world.proofs.holding.edit_as.Goals as goal

pub returns-clause-does : goal.returns-clause-does
returns-clause-does g c = λ w good stands at.
    let s = step.Edit c.args.name.now (Ok c.args.op) in
    let has = holder_there w (get c.args.names.now.table.values c.args.name.now) (get w.names c.args.name.now) c.take_holder-holder.result c.take_holder-holder.ensures.there (stands.named c.args.name.now) in
    let given = insert (insert c.args.names.now.table.values c.args.name.now a.Used) c.args.name.now (a.Container c.edit-line.new.holder) in
    subst (λ given. StepTakes (done c.args.lanes.now.limits w s) c.edit-line.new.lanes c.edit-line.new.objects given c.one.result) (sym (c.put.ensures ∙ ap (λ t. insert t c.args.name.now (a.Container c.edit-line.new.holder)) c.take_holder-holder.ensures.left))
    (step_takes c.args.lanes.now.limits w s c.args.lanes.now c.args.objects.now c.args.names.now.table.values stands (ap (refusal_of_edit (Ok c.args.op)) c.requires.1.1.1.1.1.0) c.steps_leave_others.ensures.others c.others_leave_containers.ensures c.containers_stay_based.ensures c.args.name.now
    given c.edit-line.new.holder c.edit-line.new.lanes c.edit-line.new.objects c.edit-line.result c.one.result refl
    (put_stay c.args.names.now.table.values c.args.name.now a.Used (a.Container c.edit-line.new.holder)) (get_own (insert c.args.names.now.table.values c.args.name.now a.Used) c.args.name.now (a.Container c.edit-line.new.holder))
    (c.edit-line.ensures.does w has.0 good stands.desk stands.held stands.sound at has.1.0 has.1.1) c.one.ensures)

pub returns-clause-runs : goal.returns-clause-runs
returns-clause-runs g c = λ first steps run. one_links first (steps + 1) c.args.objects.now c.edit-line.new.objects c.edit-line.new.lanes c.edit-line.result c.one.result (c.edit-line.ensures.runs first steps run) c.one.ensures

pub returns-clause-numbers : goal.returns-clause-numbers
returns-clause-numbers g c = counted_ok c.one.result (λ n few.
    subst (AreBounded (n + 1)) (sym (c.put.ensures ∙ ap (λ t. insert t c.args.name.now (a.Container c.edit-line.new.holder)) c.take_holder-holder.ensures.left))
    (holder_counted c.args.names.now.table.values c.args.name.now c.take_holder-holder.result c.edit-line.new.holder n c.take_holder-holder.ensures.there c.edit-line.ensures.numbers few))

pub put-requires : goal.put-requires
put-requires g c = there_put c.args.names.now.table.values c.take_holder-holder.new.self.table.values c.args.name.now a.Used c.take_holder-holder.ensures.left

pub edit-line-requires : goal.edit-line-requires
edit-line-requires g c =
    let numbers : c.take_holder-holder.result.container.last < largest =
    few_last c.args.names.now.table.values c.args.name.now c.take_holder-holder.result c.take_holder-holder.ensures.there c.requires.1.1.1.1.1.1.1 in
    search rules
