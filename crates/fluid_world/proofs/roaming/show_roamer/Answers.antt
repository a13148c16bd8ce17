use Rattle.std.proofs.Common.{◌+◌, refl}
use Rattle.std.specs.FinMap.{get}
use Rattle.fluid_steps.specs.declared.steps.Step.TheVariants as step
use Rattle.fluid_world.proofs.Linked.{reading_links, one_links}
use Rattle.fluid_world.proofs.Stepped.{roamer_there, document_takes, roamer_shown}
use Rattle.fluid_world.proofs.roaming.show_roamer.Goals as goal

pub returns-clause-does : goal.returns-clause-does
returns-clause-does g c = λ w stands at.
    let s = step.Show c.args.name.now in
    let has = roamer_there w (get c.args.names.now.table.values c.args.name.now) (get w.names c.args.name.now) c.roamer.result.now c.roamer.ensures (stands.named c.args.name.now) in
    document_takes c.args.lanes.now.limits w s c.args.lanes.now c.args._objects.now c.args.names.now.table.values stands (roamer_shown (get c.args.names.now.table.values c.args.name.now) c.requires.accepted) c.steps_leave_others.ensures.others c.others_leave_containers.ensures c.containers_stay_based.ensures c.show-line.new.lanes c.show-line.result c.one.result refl tt
    c.steps_leave_others.ensures.store (c.show-line.ensures.does w has.0 stands.desk stands.sound at has.1.0 has.1.1) c.one.ensures

pub returns-clause-runs : goal.returns-clause-runs
returns-clause-runs g c = λ first steps run.
    one_links first (steps + 1) c.args._objects.now c.args._objects.now c.show-line.new.lanes c.show-line.result c.one.result
    (reading_links first (steps + 1) c.args._objects.now c.args._objects.now c.show-line.new.lanes c.show-line.result (c.show-line.ensures.runs first steps run)) c.one.ensures
