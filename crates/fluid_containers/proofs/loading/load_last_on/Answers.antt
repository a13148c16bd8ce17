use Rattle.std.proofs.Common.{◌≡◌, true, rules, subst}
use Rattle.fluid_door_link.specs.Coursing.{HasStood}
use Rattle.std.proofs.lemmas.Result.{err_from_is_err_and}
use Rattle.fluid_containers.specs.Loading.{LaneLoaded}
use Rattle.fluid_containers.proofs.Ends.{links_on}
use Rattle.fluid_containers.proofs.Loads.{ends_in}
use Rattle.fluid_containers.proofs.loading.load_last_on.Goals as goal

pub load_lane-requires : goal.load_lane-requires
load_lane-requires g c =
    let stood : g.good ≡ true → HasStood c.args.lane.now = c.requires.1.1.1 in
    search rules

pub returns-in_err-loaded-clause-does : goal.returns-in_err-loaded-clause-does
returns-in_err-loaded-clause-does g c = λ limits w d good of store at.
    let e = err_from_is_err_and c.from_residual.result c.from_residual.ensures.1 in rw (e.1, e.2) (c.in_err-loaded.ensures.does limits w d good of store at)

pub returns-in_err-loaded-clause-runs : goal.returns-in_err-loaded-clause-runs
returns-in_err-loaded-clause-runs g c =
    let e = err_from_is_err_and c.from_residual.result c.from_residual.ensures.1 in
    let runs = c.in_err-loaded.ensures.runs in
    rw (e.1, e.2) (record { later = runs.later; sides = runs.sides; counts = runs.counts; ends = runs.ends })

pub returns-clause-does : goal.returns-clause-does
returns-clause-does g c = λ limits w d good of store at.
    let name = c.args.document.now in
    let made = c.in_ok-loaded.ensures.does limits w d good of store at in
    ends_in limits w d name _ c.load_lane.new.lane c.load_lane.new.objects c.in_ok-loaded.loaded c.last_line.result
    (subst (λ pick. LaneLoaded limits w d name pick c.load_lane.new.lane c.load_lane.new.objects c.in_ok-loaded.loaded) (c.latest_if_any-pick.ensures limits d of) made) c.last_line.ensures.says

pub returns-clause-runs : goal.returns-clause-runs
returns-clause-runs g c = links_on c.args.lane.now c.load_lane.new.lane c.args.objects.now c.load_lane.new.objects c.in_ok-loaded.loaded c.last_line.result c.in_ok-loaded.ensures.runs c.last_line.ensures.memory
