use Rattle.std.proofs.Common.{refl, sym, ap, subst, ◌∙◌, rules, ◌<◌}
use Rattle.fluid_types.specs.Forms.{largest}
use Rattle.std.specs.FinMap.{get, insert}
use Rattle.fluid_table.proofs.Places.{get_own}
use Rattle.fluid_steps.specs.declared.steps.Step.TheVariants as step
use Rattle.fluid_transcript.specs.Transcript.{done}
use Rattle.fluid_world.specs.declared.named.Named.TheVariants as a
use Rattle.fluid_world.specs.Standing.{StepTakes}
use Rattle.std.proofs.Common.{◌+◌}
use Rattle.fluid_world.specs.Naming.{AreBounded}
use Rattle.fluid_world.proofs.Linked.{one_links}
use Rattle.fluid_world.proofs.Stepped.{holder_there, step_takes, put_stay, there_put, holder_counted, counted_ok, few_last}
use Rattle.fluid_world.proofs.holding.summarize_as.Goals as goal

pub returns-clause-does : goal.returns-clause-does
returns-clause-does g c = λ w good stands own at.
    let s = step.Summarize c.args.name.now in
    let has = holder_there w (get c.args.names.now.table.values c.args.name.now) (get w.names c.args.name.now) c.take_holder-holder.result c.take_holder-holder.ensures.there (stands.named c.args.name.now) in
    let given = insert (insert c.args.names.now.table.values c.args.name.now a.Used) c.args.name.now (a.Container c.summarize-line.new.holder) in
    subst (λ given. StepTakes (done c.args.lanes.now.limits w s) c.summarize-line.new.lanes c.summarize-line.new.objects given c.one.result) (sym (c.put.ensures ∙ ap (λ t. insert t c.args.name.now (a.Container c.summarize-line.new.holder)) c.take_holder-holder.ensures.left))
    (step_takes c.args.lanes.now.limits w s c.args.lanes.now c.args.objects.now c.args.names.now.table.values stands c.requires.1.1.1.1.1.0 c.steps_leave_others.ensures.others c.others_leave_containers.ensures c.containers_stay_based.ensures c.args.name.now
    given c.summarize-line.new.holder c.summarize-line.new.lanes c.summarize-line.new.objects c.summarize-line.result c.one.result refl
    (put_stay c.args.names.now.table.values c.args.name.now a.Used (a.Container c.summarize-line.new.holder)) (get_own (insert c.args.names.now.table.values c.args.name.now a.Used) c.args.name.now (a.Container c.summarize-line.new.holder))
    (c.summarize-line.ensures.does w has.0 good stands.desk stands.held stands.sound at has.1.0 has.1.1 own) c.one.ensures)

pub returns-clause-runs : goal.returns-clause-runs
returns-clause-runs g c = λ first steps run. one_links first (steps + 1) c.args.objects.now c.summarize-line.new.objects c.summarize-line.new.lanes c.summarize-line.result c.one.result (c.summarize-line.ensures.runs first steps run) c.one.ensures

pub returns-clause-numbers : goal.returns-clause-numbers
returns-clause-numbers g c = counted_ok c.one.result (λ n few.
    subst (AreBounded (n + 1)) (sym (c.put.ensures ∙ ap (λ t. insert t c.args.name.now (a.Container c.summarize-line.new.holder)) c.take_holder-holder.ensures.left))
    (holder_counted c.args.names.now.table.values c.args.name.now c.take_holder-holder.result c.summarize-line.new.holder n c.take_holder-holder.ensures.there c.summarize-line.ensures.numbers few))

pub put-requires : goal.put-requires
put-requires g c = there_put c.args.names.now.table.values c.take_holder-holder.new.self.table.values c.args.name.now a.Used c.take_holder-holder.ensures.left

pub summarize-line-requires : goal.summarize-line-requires
summarize-line-requires g c =
    let numbers : c.take_holder-holder.result.container.last < largest =
    few_last c.args.names.now.table.values c.args.name.now c.take_holder-holder.result c.take_holder-holder.ensures.there c.requires.1.1.1.1.1.1 in
    search rules
