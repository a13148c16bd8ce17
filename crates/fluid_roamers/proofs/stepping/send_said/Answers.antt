use Rattle.std.proofs.Common.{None, Some, [], ◌∷◌, sym, subst, ◌∙◌}
use Rattle.std.proofs.lemmas.Result.{err_from_is_err_and}
use Rattle.fluid_transcript.specs.World.{ledger_of}
use Rattle.fluid_transcript.specs.Lines.{said_line}
use Rattle.fluid_transcript.specs.Roamers as steps
use Rattle.fluid_desk.specs.Acting.{IsLine}
use Rattle.fluid_edits.specs.Forms.{contents_of}
use Rattle.fluid_roamers.proofs.Acts.{waits, sent_so, stops_step}
use Rattle.fluid_roamers.proofs.Reading.{reads_alone, reads_line}
use Rattle.fluid_roamers.proofs.Saying.{one_waits, lost_known, stands_with}
use Rattle.fluid_roamers.specs.Taking.{IsSendable}
use Rattle.fluid_roamers.proofs.Roamed.{always}
use Rattle.fluid_roamers.proofs.stepping.send_said.Goals as goal

pub returns-then-is_lost-clause-does : goal.returns-then-is_lost-clause-does
returns-then-is_lost-clause-does g c = λ limits w d k edit of at stands is number.
    let gone = sym (lost_known (ledger_of d) c.args.roamer.now (steps.with_edit k edit) (edit ∷ []) is c.is_lost.result (c.is_lost.ensures.answer is.past is.outbox)) ∙ c.if-is_lost.true in
    waits limits w d c.args.name.now k edit c.args.lane.now c.args.roamer.now gone of is c.line_or_stop.result
    (subst (λ n. IsLine (said_line c.args.name.now n) c.line_or_stop.result) number (c.line_or_stop.ensures _ c.said_line.ensures))

pub returns-then-is_lost-clause-runs : goal.returns-then-is_lost-clause-runs
returns-then-is_lost-clause-runs g c = reads_alone c.args.lane.now _ c.line_or_stop.result (c.line_or_stop.ensures _ c.said_line.ensures)

pub returns-in_err-sent-clause-does : goal.returns-in_err-sent-clause-does
returns-in_err-sent-clause-does g c = λ limits w d k edit of at stands is number.
    let e = err_from_is_err_and c.from_residual.result c.from_residual.ensures.1 in
    let going = sym (lost_known (ledger_of d) c.args.roamer.now (steps.with_edit k edit) (edit ∷ []) is c.is_lost.result (c.is_lost.ensures.answer is.past is.outbox)) ∙ c.if-is_lost.false in
    rw (e.1, e.2) (stops_step (steps.laid_over limits w (ledger_of d) c.args.name.now k edit (contents_of edit) k.is_lost) d c.send.new.lane c.in_err-sent.field-0.0
    (c.in_err-sent.ensures.does limits w d (steps.with_edit k edit) (edit ∷ []) of at (stands_with (ledger_of d) k edit stands) going is))

pub returns-in_err-sent-clause-runs : goal.returns-in_err-sent-clause-runs
returns-in_err-sent-clause-runs g c =
    let e = err_from_is_err_and c.from_residual.result c.from_residual.ensures.1 in
    rw (e.1, e.2) (record { later = c.in_err-sent.ensures.runs.later; sides = c.in_err-sent.ensures.runs.sides; ends = c.in_err-sent.ensures.runs.ends })

pub returns-in-Taken-clause-does : goal.returns-in-Taken-clause-does
returns-in-Taken-clause-does g c = λ limits w d k edit of at stands is number.
    let going = sym (lost_known (ledger_of d) c.args.roamer.now (steps.with_edit k edit) (edit ∷ []) is c.is_lost.result (c.is_lost.ensures.answer is.past is.outbox)) ∙ c.if-is_lost.false in
    sent_so limits w d c.args.name.now k edit c.send.new.lane c.send.new.roamer going None
    (rw c.in-Taken.is at (c.in_ok-sent.ensures.does limits w d (steps.with_edit k edit) (edit ∷ []) of at (stands_with (ledger_of d) k edit stands) going is)) c.line_or_stop-in-Taken.result
    (subst (λ n. IsLine (said_line c.args.name.now n) c.line_or_stop-in-Taken.result) number (c.line_or_stop-in-Taken.ensures _ c.said_line-in-Taken.ensures))

pub returns-in-Taken-clause-runs : goal.returns-in-Taken-clause-runs
returns-in-Taken-clause-runs g c = reads_line c.args.lane.now c.send.new.lane _ _ c.line_or_stop-in-Taken.result c.in_ok-sent.ensures.runs (c.line_or_stop-in-Taken.ensures _ c.said_line-in-Taken.ensures)

pub returns-in-Refused-clause-does : goal.returns-in-Refused-clause-does
returns-in-Refused-clause-does g c = λ limits w d k edit of at stands is number.
    let going = sym (lost_known (ledger_of d) c.args.roamer.now (steps.with_edit k edit) (edit ∷ []) is c.is_lost.result (c.is_lost.ensures.answer is.past is.outbox)) ∙ c.if-is_lost.false in
    sent_so limits w d c.args.name.now k edit c.send.new.lane c.send.new.roamer going (Some c.in-Refused.rule)
    (rw c.in-Refused.is at (c.in_ok-sent.ensures.does limits w d (steps.with_edit k edit) (edit ∷ []) of at (stands_with (ledger_of d) k edit stands) going is)) c.line_or_stop-in-Refused.result
    (c.line_or_stop-in-Refused.ensures _ c.refused_line.ensures)

pub returns-in-Refused-clause-runs : goal.returns-in-Refused-clause-runs
returns-in-Refused-clause-runs g c = reads_line c.args.lane.now c.send.new.lane _ _ c.line_or_stop-in-Refused.result c.in_ok-sent.ensures.runs (c.line_or_stop-in-Refused.ensures _ c.refused_line.ensures)

pub returns-in-Nothing-clause-does : goal.returns-in-Nothing-clause-does
returns-in-Nothing-clause-does g c = λ limits w d k edit of at stands is number.
    let going = sym (lost_known (ledger_of d) c.args.roamer.now (steps.with_edit k edit) (edit ∷ []) is c.is_lost.result (c.is_lost.ensures.answer is.past is.outbox)) ∙ c.if-is_lost.false in
    absurd (one_waits edit (rw c.in-Nothing.is at (c.in_ok-sent.ensures.does limits w d (steps.with_edit k edit) (edit ∷ []) of at (stands_with (ledger_of d) k edit stands) going is)).0)

pub returns-in-Nothing-clause-runs : goal.returns-in-Nothing-clause-runs
returns-in-Nothing-clause-runs g c = reads_line c.args.lane.now c.send.new.lane _ _ c.line_or_stop-in-Nothing.result c.in_ok-sent.ensures.runs (c.line_or_stop-in-Nothing.ensures _ c.said_line-in-Nothing.ensures)

pub returns-then-is_lost-clause-kept : goal.returns-then-is_lost-clause-kept
returns-then-is_lost-clause-kept g c = always (IsSendable c.args.roamer.now.outbox) c.line_or_stop.result c.requires.kept

pub returns-in-Nothing-clause-kept : goal.returns-in-Nothing-clause-kept
returns-in-Nothing-clause-kept g c = always (IsSendable c.send.new.roamer.outbox) c.line_or_stop-in-Nothing.result c.in_ok-sent.ensures.kept

pub returns-in-Taken-clause-kept : goal.returns-in-Taken-clause-kept
returns-in-Taken-clause-kept g c = always (IsSendable c.send.new.roamer.outbox) c.line_or_stop-in-Taken.result c.in_ok-sent.ensures.kept

pub returns-in-Refused-clause-kept : goal.returns-in-Refused-clause-kept
returns-in-Refused-clause-kept g c = always (IsSendable c.send.new.roamer.outbox) c.line_or_stop-in-Refused.result c.in_ok-sent.ensures.kept
