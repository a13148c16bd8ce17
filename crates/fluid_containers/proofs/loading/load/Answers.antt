use Rattle.std.proofs.Common.{◌≡◌, refl, true, rules}
use Rattle.fluid_steps.specs.declared.steps.Step.TheVariants as step
use Rattle.fluid_transcript.specs.World.{document}
use Rattle.fluid_desk.proofs.Doing.{used_of, many_of, used_there, may_unready}
use Rattle.fluid_door_link.specs.Coursing.{HasStood}
use Rattle.fluid_containers.proofs.Ends.{links_desk, stops_linking, turned_runs}
use Rattle.fluid_containers.proofs.LoadedDesk.{loads_on, loads_away}
use Rattle.fluid_containers.proofs.OnDesk.{used_stood}
use Rattle.fluid_containers.proofs.loading.load.Goals as goal

pub lent-requires : goal.lent-requires
lent-requires g c = used_there c.args.lanes.now c.ready.new.lanes c.args.document.now c.args.moment c.in-Ok-true.field-0 c.in-Ok-true.field-0-test c.in-Ok-true.ensures.readied

pub load_on-requires : goal.load_on-requires
load_on-requires g c =
    let r = c.in-Ok-true in
    let stood : g.good ≡ true → HasStood c.lent.result.now =
    used_stood g.good c.args.lanes.now c.ready.new.lanes c.args.document.now c.args.moment c.lent.result.now c.requires.1.1.1.1
    (used_of c.args.lanes.now c.ready.new.lanes c.args.document.now c.args.moment r.field-0 r.field-0-test r.ensures.readied) c.lent.ensures.value in
    search rules

pub returns-in-Ok-true-clause-does : goal.returns-in-Ok-true-clause-does
returns-in-Ok-true-clause-does g c = λ w good desk store sound at none.
    let r = c.in-Ok-true in
    let old = c.args.lanes.now in
    let name = c.args.document.now in
    loads_on old c.ready.new.lanes w name c.args.moment c.lent.result.now c.load_on.new.lane c.args.objects.now c.load_on.new.objects desk store at
    (used_of old c.ready.new.lanes name c.args.moment r.field-0 r.field-0-test r.ensures.readied) r.ensures.limits c.lent.ensures.value c.args.name.now c.args.pick.now c.load_on.result
    (λ u at_u of store_u. c.load_on.ensures.does old.limits u (document u name) good of store_u at_u)

pub returns-in-Ok-true-clause-runs : goal.returns-in-Ok-true-clause-runs
returns-in-Ok-true-clause-runs g c = λ first steps run.
    links_desk first steps c.ready.new.lanes c.args.document.now c.lent.result.now c.load_on.new.lane c.args.objects.now c.load_on.new.objects c.load_on.result (c.in-Ok-true.ensures.runs first steps run)
    c.lent.ensures.value c.lent.ensures.out c.load_on.ensures.runs

pub returns-in-Ok-true-clause-counts : goal.returns-in-Ok-true-clause-counts
returns-in-Ok-true-clause-counts g c = c.load_on.ensures.runs.counts

pub returns-in-Ok-false-clause-does : goal.returns-in-Ok-false-clause-does
returns-in-Ok-false-clause-does g c = λ w good desk store sound at none.
    let r = c.in-Ok-false in
    let many = many_of c.args.lanes.now c.ready.new.lanes c.args.document.now c.args.moment r.field-0 r.field-0-test r.ensures.readied in
    loads_away c.args.lanes.now c.ready.new.lanes w c.args.document.now many.0 c.args.objects.now desk store many.1 c.args.name.now c.args.pick.now c.turned_away.result c.turned_away.ensures

pub returns-in-Ok-false-clause-runs : goal.returns-in-Ok-false-clause-runs
returns-in-Ok-false-clause-runs g c = λ first steps run.
    turned_runs first steps c.ready.new.lanes c.args.objects.now c.args.objects.now c.args.name.now c.turned_away.result (c.in-Ok-false.ensures.runs first steps run) c.turned_away.ensures

pub returns-in-Err-clause-does : goal.returns-in-Err-clause-does
returns-in-Err-clause-does g c = λ w good desk store sound at none.
    may_unready c.args.lanes.now.limits w c.args.document.now c.ready.new.lanes (step.Load c.args.name.now c.args.document.now c.args.pick.now) c.in-Err.stop refl (c.in-Err.ensures.honest w desk)

pub returns-in-Err-clause-runs : goal.returns-in-Err-clause-runs
returns-in-Err-clause-runs g c = λ first steps run. stops_linking first steps c.args.objects.now c.args.objects.now c.ready.new.lanes c.in-Err.stop (c.in-Err.ensures.runs first steps run)
