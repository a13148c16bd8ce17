use Rattle.std.proofs.Common.{rules, [], Err, ap, subst}
use Rattle.std.proofs.lemmas.Result.{err_from_is_err_and}
use Rattle.fluid_transcript.specs.World.{grown}
use Rattle.fluid_transcript.specs.Roamers as steps
use Rattle.fluid_desk.specs.Stopping.{steps_on}
use Rattle.fluid_containers.specs.Joining.{joined_to}
use Rattle.fluid_roamers.proofs.Acts.{roam_as, roam_honest, wants_line}
use Rattle.fluid_roamers.proofs.Reading.{reads_nothing, reads_other, reads_wants}
use Rattle.fluid_roamers.specs.Taking.{Begins}
use Rattle.fluid_roamers.proofs.stepping.roam_as.Goals as goal

pub returns-in_err-place-clause-does : goal.returns-in_err-place-clause-does
returns-in_err-place-clause-does g c = λ limits w d joined of. let e = err_from_is_err_and c.from_residual.result c.from_residual.ensures.1 in rw (e.1, e.2) tt

pub returns-in_err-place-clause-runs : goal.returns-in_err-place-clause-runs
returns-in_err-place-clause-runs g c = reads_nothing c.args.lane.now _ (search rules)

pub returns-in_err-own-clause-does : goal.returns-in_err-own-clause-does
returns-in_err-own-clause-does g c = λ limits w d joined of. let e = err_from_is_err_and c.from_residual-in_err-own.result c.from_residual-in_err-own.ensures.1 in rw (e.1, e.2) tt

pub returns-in_err-own-clause-runs : goal.returns-in_err-own-clause-runs
returns-in_err-own-clause-runs g c = reads_nothing c.args.lane.now _ (search rules)

pub returns-in_err-hear-clause-does : goal.returns-in_err-hear-clause-does
returns-in_err-hear-clause-does g c = λ limits w d joined of.
    let e = err_from_is_err_and c.from_residual-in_err-hear.result c.from_residual-in_err-hear.ensures.1 in
    rw (e.1, e.2) (roam_honest c.containers_load.ensures limits w d c.args.name.now c.args.document.now c.args.client joined c.hear.new.lane c.in_err-hear.field-0.0 (c.in_err-hear.ensures.does limits (joined_to limits w d) [] of c.new-roamer.ensures.begins.outbox))

pub returns-in_err-hear-clause-runs : goal.returns-in_err-hear-clause-runs
returns-in_err-hear-clause-runs g c =
    let e = err_from_is_err_and c.from_residual-in_err-hear.result c.from_residual-in_err-hear.ensures.1 in
    rw (e.1, e.2) (record { later = c.in_err-hear.ensures.runs.later; sides = c.in_err-hear.ensures.runs.sides; ends = c.in_err-hear.ensures.runs.ends })

pub returns-in_err-join-clause-does : goal.returns-in_err-join-clause-does
returns-in_err-join-clause-does g c = λ limits w d joined of. let e = err_from_is_err_and c.from_residual-in_err-join.result c.from_residual-in_err-join.ensures.1 in rw (e.1, e.2) tt

pub returns-in_err-join-clause-runs : goal.returns-in_err-join-clause-runs
returns-in_err-join-clause-runs g c = reads_wants c.args.lane.now c.hear.new.lane _ _ c.in_ok-hear.ensures.runs (search rules)

pub returns-in_err-line-clause-does : goal.returns-in_err-line-clause-does
returns-in_err-line-clause-does g c = λ limits w d joined of.
    let e = err_from_is_err_and c.from_residual-in_err-line.result c.from_residual-in_err-line.ensures.1 in rw (e.1, e.2)
    (wants_line (steps_on (grown (steps.roamed limits w d c.args.name.now c.args.document.now) d) c.hear.new.lane) c.in_err-line.field-0.0 (c.in_err-line.ensures _ c.roams_line.ensures))

pub returns-in_err-line-clause-runs : goal.returns-in_err-line-clause-runs
returns-in_err-line-clause-runs g c =
    let e = err_from_is_err_and c.from_residual-in_err-line.result c.from_residual-in_err-line.ensures.1 in
    rw (e.1, e.2) (reads_wants c.args.lane.now c.hear.new.lane _ _ c.in_ok-hear.ensures.runs (ap (λ s. Err s) (c.in_err-line.ensures _ c.roams_line.ensures)))

pub returns-clause-runs : goal.returns-clause-runs
returns-clause-runs g c = reads_other c.args.lane.now c.hear.new.lane _ _ c.in_ok-hear.ensures.runs

pub returns-clause-does : goal.returns-clause-does
returns-clause-does g c = λ limits w d joined of.
    roam_as c.containers_load.ensures limits w d c.args.name.now c.args.document.now c.args.client joined c.hear.new.lane c.new-roamer.result c.hear.new.roamer c.join.new.self c.in_ok-own.own
    (subst (λ n. Begins n c.in_ok-own.own c.new-roamer.result) c.in_ok-place.ensures c.new-roamer.ensures.begins) c.in_ok-own.ensures (c.in_ok-hear.ensures.does limits (joined_to limits w d) [] of c.new-roamer.ensures.begins.outbox)
    c.in_ok-join.ensures.does c.in_ok-line.line c.seq.result c.seq.ensures (c.in_ok-line.ensures _ c.roams_line.ensures)

pub returns-clause-kept : goal.returns-clause-kept
returns-clause-kept g c = c.in_ok-join.ensures.kept
