use Rattle.std.proofs.Common.{refl, sym, ap, subst, ◌∙◌}
use Rattle.std.specs.FinMap.{get, insert}
use Rattle.fluid_table.proofs.Places.{get_own}
use Rattle.fluid_steps.specs.declared.steps.Step.TheVariants as step
use Rattle.fluid_transcript.specs.Transcript.{done}
use Rattle.fluid_world.specs.declared.named.Named.TheVariants as a
use Rattle.fluid_world.specs.Standing.{StepTakes}
use Rattle.std.proofs.Common.{◌+◌}
use Rattle.fluid_world.specs.Naming.{AreBounded}
use Rattle.fluid_world.proofs.Linked.{one_links}
use Rattle.fluid_world.proofs.Stepped.{holder_there, step_takes, put_stay, there_put, holder_counted, counted_ok}
use Rattle.fluid_world.proofs.holding.pump_as.Goals as goal

pub returns-clause-does : goal.returns-clause-does
returns-clause-does g c = λ w good stands at.
    let s = step.Pump c.args.name.now in
    let has = holder_there w (get c.args.names.now.table.values c.args.name.now) (get w.names c.args.name.now) c.take_holder-holder.result c.take_holder-holder.ensures.there (stands.named c.args.name.now) in
    let given = insert (insert c.args.names.now.table.values c.args.name.now a.Used) c.args.name.now (a.Container c.pump-line.new.holder) in
    subst (λ given. StepTakes (done c.args.lanes.now.limits w s) c.pump-line.new.lanes c.pump-line.new.objects given c.one.result) (sym (c.put.ensures ∙ ap (λ t. insert t c.args.name.now (a.Container c.pump-line.new.holder)) c.take_holder-holder.ensures.left))
    (step_takes c.args.lanes.now.limits w s c.args.lanes.now c.args.objects.now c.args.names.now.table.values stands c.requires.1.1.1.1.1 c.steps_leave_others.ensures.others c.others_leave_containers.ensures c.containers_stay_based.ensures c.args.name.now
    given c.pump-line.new.holder c.pump-line.new.lanes c.pump-line.new.objects c.pump-line.result c.one.result refl
    (put_stay c.args.names.now.table.values c.args.name.now a.Used (a.Container c.pump-line.new.holder)) (get_own (insert c.args.names.now.table.values c.args.name.now a.Used) c.args.name.now (a.Container c.pump-line.new.holder))
    (c.pump-line.ensures.does w has.0 good stands.desk stands.held stands.sound at has.1.0 has.1.1) c.one.ensures)

pub returns-clause-runs : goal.returns-clause-runs
returns-clause-runs g c = λ first steps run. one_links first (steps + 1) c.args.objects.now c.pump-line.new.objects c.pump-line.new.lanes c.pump-line.result c.one.result (c.pump-line.ensures.runs first steps run) c.one.ensures

pub returns-clause-numbers : goal.returns-clause-numbers
returns-clause-numbers g c = counted_ok c.one.result (λ n few.
    subst (AreBounded (n + 1)) (sym (c.put.ensures ∙ ap (λ t. insert t c.args.name.now (a.Container c.pump-line.new.holder)) c.take_holder-holder.ensures.left))
    (holder_counted c.args.names.now.table.values c.args.name.now c.take_holder-holder.result c.pump-line.new.holder n c.take_holder-holder.ensures.there c.pump-line.ensures.numbers few))

pub put-requires : goal.put-requires
put-requires g c = there_put c.args.names.now.table.values c.take_holder-holder.new.self.table.values c.args.name.now a.Used c.take_holder-holder.ensures.left
