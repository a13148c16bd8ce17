use Rattle.std.proofs.Common.{◌+◌, refl, sym, ap, subst, ◌∙◌}
use Rattle.std.specs.FinMap.{get, insert}
use Rattle.fluid_table.proofs.Places.{get_own}
use Rattle.fluid_steps.specs.declared.steps.Step.TheVariants as step
use Rattle.fluid_transcript.specs.Transcript.{done}
use Rattle.fluid_world.specs.declared.named.Named.TheVariants as a
use Rattle.fluid_world.specs.Standing.{StepTakes}
use Rattle.fluid_world.specs.Naming.{AreBounded}
use Rattle.fluid_world.proofs.Linked.{reading_links, one_links}
use Rattle.fluid_world.proofs.Stepped.{roamer_there, roamer_takes, put_stay, there_put, roamer_bounded, kept_ok, kept_of}
use Rattle.fluid_world.proofs.roaming.acked_as.Goals as goal

pub returns-clause-does : goal.returns-clause-does
returns-clause-does g c = λ w stands at.
    let s = step.Acked c.args.name.now in
    let names = c.args.names.now.table.values in
    let has = roamer_there w (get names c.args.name.now) (get w.names c.args.name.now) c.take_roamer-roamer.result c.take_roamer-roamer.ensures.there (stands.named c.args.name.now) in
    let given = insert (insert names c.args.name.now a.Used) c.args.name.now (a.Roamer c.acked-line.new.roamer) in
    subst (λ given. StepTakes (done c.args.lanes.now.limits w s) c.acked-line.new.lanes c.args._objects.now given c.one.result) (sym (c.put.ensures ∙ ap (λ t. insert t c.args.name.now (a.Roamer c.acked-line.new.roamer)) c.take_roamer-roamer.ensures.left))
    (roamer_takes c.args.lanes.now.limits w s c.args.lanes.now c.args._objects.now names stands (c.requires.accepted) c.steps_leave_others.ensures.others c.others_leave_containers.ensures c.containers_stay_based.ensures c.args.name.now
    given c.acked-line.new.roamer c.acked-line.new.lanes c.acked-line.result c.one.result refl tt c.steps_leave_others.ensures.store
    (put_stay names c.args.name.now a.Used (a.Roamer c.acked-line.new.roamer)) (get_own (insert names c.args.name.now a.Used) c.args.name.now (a.Roamer c.acked-line.new.roamer))
    (c.acked-line.ensures.does w has.0 stands.desk stands.sound at has.1.0 has.1.1) c.one.ensures)

pub returns-clause-runs : goal.returns-clause-runs
returns-clause-runs g c = λ first steps run.
    one_links first (steps + 1) c.args._objects.now c.args._objects.now c.acked-line.new.lanes c.acked-line.result c.one.result
    (reading_links first (steps + 1) c.args._objects.now c.args._objects.now c.acked-line.new.lanes c.acked-line.result (c.acked-line.ensures.runs first steps run)) c.one.ensures

pub returns-clause-numbers : goal.returns-clause-numbers
returns-clause-numbers g c = kept_ok c.acked-line.result c.one.result c.one.ensures c.acked-line.ensures.kept (λ kept n few.
    subst (AreBounded (n + 1)) (sym (c.put.ensures ∙ ap (λ t. insert t c.args.name.now (a.Roamer c.acked-line.new.roamer)) c.take_roamer-roamer.ensures.left))
    (roamer_bounded c.args.names.now.table.values c.args.name.now c.acked-line.new.roamer n kept few))

pub take_roamer-roamer-requires : goal.take_roamer-roamer-requires
take_roamer-roamer-requires g c = c.requires.accepted

pub put-requires : goal.put-requires
put-requires g c = there_put c.args.names.now.table.values c.take_roamer-roamer.new.self.table.values c.args.name.now a.Used c.take_roamer-roamer.ensures.left

pub acked-line-requires-clause-kept : goal.acked-line-requires-clause-kept
acked-line-requires-clause-kept g c = kept_of c.args.names.now.table.values c.args.name.now c.take_roamer-roamer.result c.take_roamer-roamer.ensures.there c.requires.few
