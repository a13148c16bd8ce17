use Rattle.std.proofs.Common.{rules, Ok, length, refl}
use Rattle.std.proofs.lemmas.Result.{err_from_is_err_and}
use Rattle.fluid_transcript.specs.Lines.{back_line, refused_line}
use Rattle.fluid_transcript.specs.Roamers.{heard_all, with_join, behind_join}
use Rattle.fluid_containers.specs.Joining.{joined_to}
use Rattle.fluid_roamers.specs.Taking.{IsSendable}
use Rattle.fluid_roamers.proofs.Roamed.{always}
use Rattle.fluid_roamers.proofs.Roaming.{as_client}
use Rattle.fluid_roamers.proofs.Rejoined.{back_unheard, back_stopped, back_told, back_nacked}
use Rattle.fluid_roamers.proofs.Reading.{reads_both, reads_err, reads_line, reads_then_stop, reads_wants}
use Rattle.fluid_roamers.proofs.stepping.back_as.Goals as goal

pub returns-in_err-hear-clause-does : goal.returns-in_err-hear-clause-does
returns-in_err-hear-clause-does g c = λ limits w d k joined of at left.
    let e = err_from_is_err_and c.from_residual.result c.from_residual.ensures.1 in
    rw (e.1, e.2) (back_unheard c.others_leave_containers.ensures c.containers_catch_up.ensures c.containers_load.ensures limits w d c.args.roamer.now k left c.args.client joined c.hear.new.lane c.in_err-hear.field-0.0
    (λ past stands. c.in_err-hear.ensures.does limits (joined_to limits w d) past of stands))

pub returns-in_err-hear-clause-runs : goal.returns-in_err-hear-clause-runs
returns-in_err-hear-clause-runs g c = let e = err_from_is_err_and c.from_residual.result c.from_residual.ensures.1 in rw (e.1, e.2) (reads_err c.args.lane.now c.hear.new.lane c.in_err-hear.field-0.0 c.in_err-hear.ensures.runs)

pub returns-in_err-join-clause-does : goal.returns-in_err-join-clause-does
returns-in_err-join-clause-does g c = λ limits w d k joined of at left.
    let e = err_from_is_err_and c.from_residual-in_err-join.result c.from_residual-in_err-join.ensures.1 in rw (e.1, e.2) tt

pub returns-in_err-join-clause-runs : goal.returns-in_err-join-clause-runs
returns-in_err-join-clause-runs g c = reads_wants c.args.lane.now c.hear.new.lane _ _ c.in_ok-hear.ensures.runs (search rules)

pub returns-in_err-refused-clause-does : goal.returns-in_err-refused-clause-does
returns-in_err-refused-clause-does g c = λ limits w d k joined of at left.
    let again = as_client (heard_all (behind_join w d) k) (length d.raws) in
    let e = err_from_is_err_and c.from_residual-in_err-refused.result c.from_residual-in_err-refused.ensures.1 in
    rw (e.1, e.2) (back_stopped c.others_leave_containers.ensures c.containers_catch_up.ensures c.containers_load.ensures limits w d c.args.roamer.now k left c.args.client joined c.hear.new.lane c.hear.new.roamer c.join.new.self
    (λ past stands. c.in_ok-hear.ensures.does limits (joined_to limits w d) past of stands) c.in_ok-join.ensures.does c.args.name.now c.send_all.new.lane c.send_all.new.roamer c.in_err-refused.field-0.0
    (λ lane stands roams. c.in_err-refused.ensures.does limits w (with_join w d) again again.client.pending lane at stands refl roams))

pub returns-in_err-refused-clause-runs : goal.returns-in_err-refused-clause-runs
returns-in_err-refused-clause-runs g c =
    let e = err_from_is_err_and c.from_residual-in_err-refused.result c.from_residual-in_err-refused.ensures.1 in
    rw (e.1, e.2) (reads_then_stop c.args.lane.now c.hear.new.lane c.send_all.new.lane _ c.in_err-refused.field-0.0 c.in_ok-hear.ensures.runs c.in_err-refused.ensures.runs)

pub returns-in-None-clause-does : goal.returns-in-None-clause-does
returns-in-None-clause-does g c = λ limits w d k joined of at left.
    let again = as_client (heard_all (behind_join w d) k) (length d.raws) in
    back_told c.others_leave_containers.ensures c.containers_catch_up.ensures c.containers_load.ensures limits w d c.args.roamer.now k left c.args.client joined c.hear.new.lane c.hear.new.roamer c.join.new.self
    (λ past stands. c.in_ok-hear.ensures.does limits (joined_to limits w d) past of stands) c.in_ok-join.ensures.does c.args.name.now c.send_all.new.lane c.send_all.new.roamer c.seq-number.result c.line_or_stop.result
    (λ lane stands roams. rw c.in-None.is at (c.in_ok-refused.ensures.does limits w (with_join w d) again again.client.pending lane at stands refl roams)) c.seq-number.ensures
    (c.line_or_stop.ensures _ c.back_line.ensures)

pub returns-in-None-clause-runs : goal.returns-in-None-clause-runs
returns-in-None-clause-runs g c =
    reads_line c.args.lane.now c.send_all.new.lane c.in_ok-refused.refused (back_line c.args.name.now c.send_all.new.roamer.client c.seq-number.result) c.line_or_stop.result
    (reads_both c.args.lane.now c.hear.new.lane c.send_all.new.lane _ (Ok c.in_ok-refused.refused) c.in_ok-hear.ensures.runs c.in_ok-refused.ensures.runs) (c.line_or_stop.ensures _ c.back_line.ensures)

pub returns-in-None-clause-kept : goal.returns-in-None-clause-kept
returns-in-None-clause-kept g c = always (IsSendable c.send_all.new.roamer.outbox) c.line_or_stop.result c.in_ok-refused.ensures.kept

pub returns-in-Some-clause-does : goal.returns-in-Some-clause-does
returns-in-Some-clause-does g c = λ limits w d k joined of at left.
    let again = as_client (heard_all (behind_join w d) k) (length d.raws) in
    back_nacked c.others_leave_containers.ensures c.containers_catch_up.ensures c.containers_load.ensures limits w d c.args.roamer.now k left c.args.client joined c.hear.new.lane c.hear.new.roamer c.join.new.self
    (λ past stands. c.in_ok-hear.ensures.does limits (joined_to limits w d) past of stands) c.in_ok-join.ensures.does c.args.name.now c.send_all.new.lane c.send_all.new.roamer c.in-Some.rule c.line_or_stop-in-Some.result
    (λ lane stands roams. rw c.in-Some.is at (c.in_ok-refused.ensures.does limits w (with_join w d) again again.client.pending lane at stands refl roams))
    (c.line_or_stop-in-Some.ensures _ c.refused_line.ensures)

pub returns-in-Some-clause-runs : goal.returns-in-Some-clause-runs
returns-in-Some-clause-runs g c =
    reads_line c.args.lane.now c.send_all.new.lane c.in_ok-refused.refused (refused_line c.args.name.now c.in-Some.rule) c.line_or_stop-in-Some.result
    (reads_both c.args.lane.now c.hear.new.lane c.send_all.new.lane _ (Ok c.in_ok-refused.refused) c.in_ok-hear.ensures.runs c.in_ok-refused.ensures.runs) (c.line_or_stop-in-Some.ensures _ c.refused_line.ensures)

pub returns-in-Some-clause-kept : goal.returns-in-Some-clause-kept
returns-in-Some-clause-kept g c = always (IsSendable c.send_all.new.roamer.outbox) c.line_or_stop-in-Some.result c.in_ok-refused.ensures.kept
