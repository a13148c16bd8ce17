use Rattle.std.proofs.Common.{◌+◌, refl}
use Rattle.std.specs.FinMap.{get}
use Rattle.fluid_steps.specs.declared.steps.Step.TheVariants as step
use Rattle.fluid_world.proofs.Linked.{on_links, one_links}
use Rattle.fluid_world.proofs.Stepped.{holder_there, holder_shown, document_takes}
use Rattle.fluid_world.proofs.holding.show_as.Goals as goal

pub returns-clause-does : goal.returns-clause-does
returns-clause-does g c = λ w stands at.
    let s = step.Show c.args.name.now in
    let has = holder_there w (get c.args.names.now.table.values c.args.name.now) (get w.names c.args.name.now) c.holder.result.now c.holder.ensures (stands.named c.args.name.now) in
    document_takes c.args.lanes.now.limits w s c.args.lanes.now c.args._objects.now c.args.names.now.table.values stands (holder_shown (get c.args.names.now.table.values c.args.name.now) c.requires.accepted) c.steps_leave_others.ensures.others c.others_leave_containers.ensures c.containers_stay_based.ensures c.show.new.lanes c.show.result c.one.result refl tt
    c.steps_leave_others.ensures.store (c.show.ensures.does w has.0 stands.desk stands.sound at has.1.0 has.1.1) c.one.ensures

pub returns-clause-runs : goal.returns-clause-runs
returns-clause-runs g c = λ first steps run.
    one_links first (steps + 1) c.args._objects.now c.args._objects.now c.show.new.lanes c.show.result c.one.result
    (on_links first (steps + 1) c.args._objects.now c.args._objects.now c.show.new.lanes c.show.result (c.show.ensures.runs first steps run)) c.one.ensures
