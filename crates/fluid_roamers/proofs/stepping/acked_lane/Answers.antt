use Rattle.std.proofs.Common.{subst}
use Rattle.std.proofs.lemmas.Result.{err_from_is_err_and}
use Rattle.fluid_transcript.specs.Lines.{acked_line}
use Rattle.fluid_transcript.specs.Roamers as steps
use Rattle.fluid_desk.specs.Acting.{IsLine}
use Rattle.fluid_roamers.specs.Taking.{IsSendable}
use Rattle.fluid_roamers.proofs.Acts.{acked_steps, stops_step}
use Rattle.fluid_roamers.proofs.Reading.{reads_line}
use Rattle.fluid_roamers.proofs.Roamed.{always}
use Rattle.fluid_roamers.proofs.stepping.acked_lane.Goals as goal

pub returns-in_err-hear-clause-does : goal.returns-in_err-hear-clause-does
returns-in_err-hear-clause-does g c = λ limits w d k of stands is.
    let e = err_from_is_err_and c.from_residual.result c.from_residual.ensures.1 in
    rw (e.1, e.2) (stops_step (steps.acked w d c.args.name.now k) d c.hear.new.lane c.in_err-hear.field-0.0 (c.in_err-hear.ensures.does limits d is.past of is.outbox))

pub returns-in_err-hear-clause-runs : goal.returns-in_err-hear-clause-runs
returns-in_err-hear-clause-runs g c =
    let e = err_from_is_err_and c.from_residual.result c.from_residual.ensures.1 in
    rw (e.1, e.2) (record { later = c.in_err-hear.ensures.runs.later; sides = c.in_err-hear.ensures.runs.sides; ends = c.in_err-hear.ensures.runs.ends })

pub returns-clause-does : goal.returns-clause-does
returns-clause-does g c = λ limits w d k of stands is.
    acked_steps c.containers_catch_up.ensures limits w d c.args.name.now k c.args.roamer.now c.hear.new.roamer is stands c.hear.new.lane (c.in_ok-hear.ensures.does limits d is.past of is.outbox) c.line_or_stop.result
    (subst (λ n. IsLine (acked_line c.args.name.now n c.hear.new.roamer.edits) c.line_or_stop.result) c.stood.ensures (c.line_or_stop.ensures _ c.acked_line.ensures))

pub returns-clause-runs : goal.returns-clause-runs
returns-clause-runs g c = reads_line c.args.lane.now c.hear.new.lane _ _ c.line_or_stop.result c.in_ok-hear.ensures.runs (c.line_or_stop.ensures _ c.acked_line.ensures)

pub returns-clause-kept : goal.returns-clause-kept
returns-clause-kept g c = always (IsSendable c.hear.new.roamer.outbox) c.line_or_stop.result c.in_ok-hear.ensures.kept
