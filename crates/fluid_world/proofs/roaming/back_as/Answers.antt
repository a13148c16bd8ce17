use Rattle.std.proofs.Common.{◌+◌, refl, sym, ap, subst, ◌∙◌, true, arith}
use Rattle.std.specs.FinMap.{get, insert}
use Rattle.fluid_table.proofs.Places.{get_own}
use Rattle.fluid_steps.specs.declared.steps.Step.TheVariants as step
use Rattle.fluid_transcript.specs.Transcript.{done}
use Rattle.fluid_world.specs.declared.named.Named.TheVariants as a
use Rattle.fluid_world.specs.Standing.{StepTakes}
use Rattle.fluid_world.specs.Naming.{AreBounded}
use Rattle.fluid_world.proofs.Linked.{reading_links, one_links}
use Rattle.fluid_world.proofs.Behind.{gone_is}
use Rattle.fluid_world.proofs.Stepped.{roamer_there, roamer_takes, put_stay, there_put, roamer_bounded, kept_ok, one_roamer, lost_then, kept_of}
use Rattle.fluid_world.proofs.roaming.back_as.Goals as goal

pub returns-clause-does : goal.returns-clause-does
returns-clause-does g c = λ w stands at.
    let s = step.Back c.args.name.now in
    let names = c.args.names.now.table.values in
    let has = roamer_there w (get names c.args.name.now) (get w.names c.args.name.now) c.take_roamer-roamer.result c.take_roamer-roamer.ensures.there (stands.named c.args.name.now) in
    let given = insert (insert names c.args.name.now a.Used) c.args.name.now (a.Roamer c.back-line.new.roamer) in
    subst (λ given. StepTakes (done c.args.lanes.now.limits w s) c.back-line.new.lanes c.back-line.new.objects given c.one.result) (sym (c.put.ensures ∙ ap (λ t. insert t c.args.name.now (a.Roamer c.back-line.new.roamer)) c.take_roamer-roamer.ensures.left))
    (subst (λ o. StepTakes (done c.args.lanes.now.limits w s) c.back-line.new.lanes o given c.one.result) (sym c.back-line.ensures.store)
    (roamer_takes c.args.lanes.now.limits w s c.args.lanes.now c.args.objects.now names stands (c.requires.accepted) c.steps_leave_others.ensures.others c.others_leave_containers.ensures c.containers_stay_based.ensures c.args.name.now
    given c.back-line.new.roamer c.back-line.new.lanes c.back-line.result c.one.result refl tt c.steps_leave_others.ensures.store
    (put_stay names c.args.name.now a.Used (a.Roamer c.back-line.new.roamer)) (get_own (insert names c.args.name.now a.Used) c.args.name.now (a.Roamer c.back-line.new.roamer))
    (c.back-line.ensures.does w has.0 stands.desk stands.sound at has.1.0 (gone_is w c.take_roamer-roamer.result has.0 has.1.1 ∙ lost_then (get names c.args.name.now) c.take_roamer-roamer.result c.requires.accepted c.take_roamer-roamer.ensures.there) has.1.1) c.one.ensures))

pub returns-clause-runs : goal.returns-clause-runs
returns-clause-runs g c = λ first steps run.
    one_links first (steps + 1) c.args.objects.now c.back-line.new.objects c.back-line.new.lanes c.back-line.result c.one.result
    (reading_links first (steps + 1) c.args.objects.now c.back-line.new.objects c.back-line.new.lanes c.back-line.result (c.back-line.ensures.runs first steps run)) c.one.ensures

pub returns-clause-numbers : goal.returns-clause-numbers
returns-clause-numbers g c = kept_ok c.back-line.result c.one.result c.one.ensures c.back-line.ensures.kept (λ kept n few.
    subst (AreBounded (n + 1)) (sym (c.put.ensures ∙ ap (λ t. insert t c.args.name.now (a.Roamer c.back-line.new.roamer)) c.take_roamer-roamer.ensures.left))
    (roamer_bounded c.args.names.now.table.values c.args.name.now c.back-line.new.roamer n kept few))

pub take_roamer-roamer-requires : goal.take_roamer-roamer-requires
take_roamer-roamer-requires g c = (one_roamer true (get c.args.names.now.table.values c.args.name.now) c.requires.accepted)

pub put-requires : goal.put-requires
put-requires g c = there_put c.args.names.now.table.values c.take_roamer-roamer.new.self.table.values c.args.name.now a.Used c.take_roamer-roamer.ensures.left

pub back-line-requires-clause-kept : goal.back-line-requires-clause-kept
back-line-requires-clause-kept g c = kept_of c.args.names.now.table.values c.args.name.now c.take_roamer-roamer.result c.take_roamer-roamer.ensures.there c.requires.few

pub returns-clause-counts : goal.returns-clause-counts
returns-clause-counts g c = omega (arith, ap (λ o. o.faults) c.back-line.ensures.store)
