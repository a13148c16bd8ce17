use Rattle.std.proofs.Common.{◌≡◌, true, rules, Err}
use Rattle.fluid_door_link.specs.Coursing.{HasStood}
use Rattle.std.proofs.lemmas.Result.{err_from_is_err_and}
use Rattle.fluid_transcript.specs.World.{ledger_of}
use Rattle.fluid_transcript.specs.Containers.{loading}
use Rattle.fluid_containers.specs.Joining.{joined_to}
use Rattle.fluid_containers.proofs.Ends.{links_on, told_wants}
use Rattle.fluid_containers.proofs.Stepped.{wanting_honest}
use Rattle.fluid_containers.proofs.loading.load_on.Goals as goal

pub load_lane-requires : goal.load_lane-requires
load_lane-requires g c =
    let stood : g.good ≡ true → HasStood c.args.lane.now = c.requires.1.1.1 in
    search rules

pub returns-in_err-loaded-clause-does : goal.returns-in_err-loaded-clause-does
returns-in_err-loaded-clause-does g c = λ limits w d good of store at.
    let e = err_from_is_err_and c.from_residual.result c.from_residual.ensures.1 in rw (e.1, e.2) (c.in_err-loaded.ensures.does limits w d good of store at)

pub returns-in_err-loaded-clause-runs : goal.returns-in_err-loaded-clause-runs
returns-in_err-loaded-clause-runs g c =
    let e = err_from_is_err_and c.from_residual.result c.from_residual.ensures.1 in
    let runs = c.in_err-loaded.ensures.runs in
    rw (e.1, e.2) (record { later = runs.later; sides = runs.sides; counts = runs.counts; ends = runs.ends })

pub returns-in_err-line-clause-runs : goal.returns-in_err-line-clause-runs
returns-in_err-line-clause-runs g c =
    let e = err_from_is_err_and c.from_residual-in_err-line.result c.from_residual-in_err-line.ensures.1 in
    rw (e.1, e.2) (links_on c.args.lane.now c.load_lane.new.lane c.args.objects.now c.load_lane.new.objects c.in_ok-loaded.loaded (Err c.in_err-line.field-0.0) c.in_ok-loaded.ensures.runs
    (told_wants c.load_line.result (Err c.in_err-line.field-0.0) c.in_err-line.ensures))

pub returns-clause-runs : goal.returns-clause-runs
returns-clause-runs g c =
    let runs = c.in_ok-loaded.ensures.runs in
    record { later = runs.later; sides = runs.sides; counts = runs.counts; ends = tt }

pub returns-in_err-line-clause-does : goal.returns-in_err-line-clause-does
returns-in_err-line-clause-does g c = λ limits w d good of store at.
    let e = err_from_is_err_and c.from_residual-in_err-line.result c.from_residual-in_err-line.ensures.1 in
    let made = c.in_ok-loaded.ensures.does limits w d good of store at in
    rw (e.1, e.2) (wanting_honest _ c.in_err-line.field-0.0 (c.in_err-line.ensures _ (c.load_line.ensures (ledger_of (joined_to limits w d)) w.store (loading limits w d c.args.document.now c.args.pick.now) made.becomes)))

pub returns-clause-does : goal.returns-clause-does
returns-clause-does g c = λ limits w d good of store at.
    let made = c.in_ok-loaded.ensures.does limits w d good of store at in
    record {
      loaded_is = made;
      says = c.in_ok-line.ensures _ (c.load_line.ensures (ledger_of (joined_to limits w d)) w.store (loading limits w d c.args.document.now c.args.pick.now) made.becomes);
    }
