use Rattle.std.proofs.Common.{rules, arith, Ok, subst, ◌∙◌}
use Rattle.std.proofs.lemmas.Result.{err_from_is_err_and}
use Rattle.fluid_transcript.specs.Lines.{turned_away_line}
use Rattle.fluid_transcript.specs.Roamers as steps
use Rattle.fluid_transcript.specs.Roamers.{left}
use Rattle.fluid_desk.specs.Acting.{IsLine}
use Rattle.fluid_containers.specs.Joining.{JoinsAs}
use Rattle.fluid_roamers.proofs.Acts.{stops_step}
use Rattle.fluid_roamers.proofs.Leaving.{leave_lane, left_by}
use Rattle.fluid_roamers.proofs.Reading.{reads_both, reads_err, reads_line, reads_nothing, reads_then_stop}
use Rattle.fluid_roamers.proofs.Rejoined.{back_refused, back_steps, left_honest}
use Rattle.fluid_roamers.specs.Taking.{IsSendable}
use Rattle.fluid_roamers.proofs.Roamed.{always}
use Rattle.fluid_roamers.proofs.stepping.back_lane.Goals as goal

pub returns-in_err-id-clause-does : goal.returns-in_err-id-clause-does
returns-in_err-id-clause-does g c = λ limits w d k of at stands away is. let e = err_from_is_err_and c.from_residual.result c.from_residual.ensures.1 in rw (e.1, e.2) tt

pub returns-in_err-id-clause-runs : goal.returns-in_err-id-clause-runs
returns-in_err-id-clause-runs g c = reads_nothing c.args.lane.now _ (search rules)

pub enter-requires-clause-fits : goal.enter-requires-clause-fits
enter-requires-clause-fits g c = rw c.in_ok-id.ensures (c.leaves_and_reports_fit.ensures.leaves c.args.roamer.now.client c.args.moment c.as_str-name.ensures.name (omega (arith, c.requires.moment)))

pub returns-in_err-enter-clause-does : goal.returns-in_err-enter-clause-does
returns-in_err-enter-clause-does g c = λ limits w d k of at stands away is.
    let e = err_from_is_err_and c.from_residual-in_err-enter.result c.from_residual-in_err-enter.ensures.1 in
    rw (e.1, e.2) (stops_step (steps.came_back limits w d c.args.name.now k) d c.enter.new.lane c.in_err-enter.field-0.0 (c.in_err-enter.ensures.does limits d of))

pub returns-in_err-joined-clause-does : goal.returns-in_err-joined-clause-does
returns-in_err-joined-clause-does g c = λ limits w d k of at stands away is.
    let lane = leave_lane limits w d k c.enter.new.lane c.in_ok-id.id c.args.moment _ (c.in_ok-id.ensures ∙ is.container.client_is) at (c.in_ok-enter.ensures.does limits d of) in
    let e = err_from_is_err_and c.from_residual-in_err-joined.result c.from_residual-in_err-joined.ensures.1 in
    rw (e.1, e.2) (left_honest limits w d c.args.name.now k c.join.new.lane c.in_err-joined.field-0.0 (c.in_err-joined.ensures.does limits w (left w d k) lane at))

pub returns-in-Ok-clause-does : goal.returns-in-Ok-clause-does
returns-in-Ok-clause-does g c = λ limits w d k of at stands away is.
    let lane = leave_lane limits w d k c.enter.new.lane c.in_ok-id.id c.args.moment _ (c.in_ok-id.ensures ∙ is.container.client_is) at (c.in_ok-enter.ensures.does limits d of) in
    let joined = c.in_ok-joined.ensures.does limits w (left w d k) lane at in
    let joins = subst (JoinsAs limits w (left w d k)) c.in-Ok.is joined.joins in
    back_steps c.others_leave_containers.ensures limits w d c.args.name.now k c.args.roamer.now is stands c.back_as.new.roamer c.back_as.new.lane joins.taken c.back_as.result
    (c.back_as.ensures.does limits w (left w d k) k joins joined.stands at
    (left_by limits w d k c.others_leave_containers.ensures c.args.roamer.now is stands c.args.lane.now of (omega (arith, c.entered-entered.ensures.is, c.entered-entered.ensures.few))))

pub returns-in-Err-clause-does : goal.returns-in-Err-clause-does
returns-in-Err-clause-does g c = λ limits w d k of at stands away is.
    let lane = leave_lane limits w d k c.enter.new.lane c.in_ok-id.id c.args.moment _ (c.in_ok-id.ensures ∙ is.container.client_is) at (c.in_ok-enter.ensures.does limits d of) in
    let joined = c.in_ok-joined.ensures.does limits w (left w d k) lane at in
    back_refused c.others_leave_containers.ensures limits w d c.args.name.now k c.args.roamer.now is stands c.in-Err.refusal c.join.new.lane c.line_or_stop.result (subst (JoinsAs limits w (left w d k)) c.in-Err.is joined.joins) joined.stands
    (subst (λ n. IsLine (turned_away_line n c.in-Err.refusal) c.line_or_stop.result) c.as_str.ensures.bytes (c.line_or_stop.ensures _ c.turned_away_line.ensures))

pub returns-in_err-enter-clause-runs : goal.returns-in_err-enter-clause-runs
returns-in_err-enter-clause-runs g c =
    let e = err_from_is_err_and c.from_residual-in_err-enter.result c.from_residual-in_err-enter.ensures.1 in rw (e.1, e.2) (reads_err c.args.lane.now c.enter.new.lane c.in_err-enter.field-0.0 c.in_err-enter.ensures.runs)

pub returns-in_err-joined-clause-runs : goal.returns-in_err-joined-clause-runs
returns-in_err-joined-clause-runs g c =
    let e = err_from_is_err_and c.from_residual-in_err-joined.result c.from_residual-in_err-joined.ensures.1 in
    rw (e.1, e.2) (reads_then_stop c.args.lane.now c.enter.new.lane c.join.new.lane _ c.in_err-joined.field-0.0 c.in_ok-enter.ensures.runs c.in_err-joined.ensures.runs)

pub returns-in-Ok-clause-runs : goal.returns-in-Ok-clause-runs
returns-in-Ok-clause-runs g c =
    reads_both c.args.lane.now c.join.new.lane c.back_as.new.lane c.in_ok-joined.joined c.back_as.result
    (reads_both c.args.lane.now c.enter.new.lane c.join.new.lane _ (Ok c.in_ok-joined.joined) c.in_ok-enter.ensures.runs c.in_ok-joined.ensures.runs) c.back_as.ensures.runs

pub returns-in-Err-clause-runs : goal.returns-in-Err-clause-runs
returns-in-Err-clause-runs g c =
    reads_line c.args.lane.now c.join.new.lane c.in_ok-joined.joined (turned_away_line c.as_str.result.now c.in-Err.refusal) c.line_or_stop.result
    (reads_both c.args.lane.now c.enter.new.lane c.join.new.lane _ (Ok c.in_ok-joined.joined) c.in_ok-enter.ensures.runs c.in_ok-joined.ensures.runs) (c.line_or_stop.ensures _ c.turned_away_line.ensures)

pub returns-in-Err-clause-kept : goal.returns-in-Err-clause-kept
returns-in-Err-clause-kept g c = always (IsSendable c.args.roamer.now.outbox) c.line_or_stop.result c.requires.kept
