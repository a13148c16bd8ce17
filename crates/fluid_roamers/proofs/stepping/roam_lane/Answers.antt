use Rattle.std.proofs.Common.{subst}
use Rattle.std.proofs.lemmas.Result.{err_from_is_err_and}
use Rattle.fluid_transcript.specs.Roamers as steps
use Rattle.fluid_containers.specs.Joining.{JoinsAs}
use Rattle.fluid_roamers.proofs.Acts.{roams_refused, stops_step}
use Rattle.fluid_roamers.proofs.Reading.{reads_both, reads_refused, refused_kept}
use Rattle.fluid_roamers.proofs.stepping.roam_lane.Goals as goal

pub returns-in_err-joined-clause-does : goal.returns-in_err-joined-clause-does
returns-in_err-joined-clause-does g c = λ limits w d of at.
    let e = err_from_is_err_and c.from_residual.result c.from_residual.ensures.1 in
    rw (e.1, e.2) (stops_step (steps.roamed limits w d c.args.name.now c.args.document.now) d c.join.new.lane c.in_err-joined.field-0.0 (c.in_err-joined.ensures.does limits w d of at))

pub returns-in_err-joined-clause-runs : goal.returns-in_err-joined-clause-runs
returns-in_err-joined-clause-runs g c =
    let e = err_from_is_err_and c.from_residual.result c.from_residual.ensures.1 in
    rw (e.1, e.2) (record { later = c.in_err-joined.ensures.runs.later; sides = c.in_err-joined.ensures.runs.sides; ends = c.in_err-joined.ensures.runs.ends })

pub returns-in-Ok-clause-does : goal.returns-in-Ok-clause-does
returns-in-Ok-clause-does g c = λ limits w d of at.
    let joined = c.in_ok-joined.ensures.does limits w d of at in
    c.roam_as.ensures.does limits w d (subst (JoinsAs limits w d) c.in-Ok.is joined.joins) joined.stands

pub returns-in-Ok-clause-runs : goal.returns-in-Ok-clause-runs
returns-in-Ok-clause-runs g c = reads_both c.args.lane.now c.join.new.lane c.roam_as.new.lane _ c.roam_as.result c.in_ok-joined.ensures.runs c.roam_as.ensures.runs

pub returns-in-Err-clause-does : goal.returns-in-Err-clause-does
returns-in-Err-clause-does g c = λ limits w d of at.
    let joined = c.in_ok-joined.ensures.does limits w d of at in
    roams_refused limits w d c.args.name.now c.args.document.now c.in-Err.refusal c.join.new.lane (subst (JoinsAs limits w d) c.in-Err.is joined.joins) joined.stands c.refused.result c.refused.ensures

pub returns-in-Err-clause-runs : goal.returns-in-Err-clause-runs
returns-in-Err-clause-runs g c = reads_refused c.args.lane.now c.join.new.lane _ c.args.name.now c.in-Err.refusal c.refused.result c.in_ok-joined.ensures.runs c.refused.ensures

pub returns-in-Err-clause-kept : goal.returns-in-Err-clause-kept
returns-in-Err-clause-kept g c = refused_kept c.args.name.now c.in-Err.refusal c.refused.result c.refused.ensures
