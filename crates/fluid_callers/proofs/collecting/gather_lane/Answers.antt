use Rattle.std.proofs.Common.{rules, arith, ◌≡◌, ◌+◌, ◌++◌, ap, ◌∙◌}
use Rattle.std.specs.Prelude.{max}
use Rattle.std.proofs.lemmas.Result.{err_from_is_err_and}
use Rattle.fluid_callers.specs.Hearing.{event_lines}
use Rattle.fluid_callers.proofs.Collected.{gathered, name_of_next}
use Rattle.fluid_callers.proofs.collecting.gather_lane.Goals as goal

pub returns-in_err-messages-clause-does : goal.returns-in_err-messages-clause-does
returns-in_err-messages-clause-does g c = λ limits d document next of.
    let e = err_from_is_err_and c.from_residual.result c.from_residual.ensures.1 in rw (e.1, e.2) (c.in_err-messages.ensures.does limits d of)

pub returns-in_err-messages-clause-runs : goal.returns-in_err-messages-clause-runs
returns-in_err-messages-clause-runs g c =
    let e = err_from_is_err_and c.from_residual.result c.from_residual.ensures.1 in rw (e.1, e.2) (record { later = c.in_err-messages.ensures.runs.later; sides = c.in_err-messages.ensures.runs.sides; ends = c.in_err-messages.ensures.runs.ends })

pub returns-clause-does : goal.returns-clause-does
returns-clause-does g c = λ limits d document next of.
    let from_is : c.max.result ≡ max c.args.next 1 = search rules in
    gathered limits d c.args.name.now document c.args.next c.max.result (c.seq-behind.result + 1) c.args.voice.now c.args.lane.now c.messages_from.new.lane c.in_ok-messages.messages.items c.push_events.new.lines next of
    (ap (λ n. n + 1) c.seq-behind.ensures.is) from_is (c.in_ok-messages.ensures.does limits d of)
    (c.in_ok-push_events.ensures document (name_of_next document c.args.next c.args.voice.now next) ∙ ap (λ l. l ++ event_lines c.args.name.now document c.in_ok-messages.messages.items) c.none-lines.ensures)

pub returns-in_err-push_events-clause-runs : goal.returns-in_err-push_events-clause-runs
returns-in_err-push_events-clause-runs g c =
    let e = err_from_is_err_and c.from_residual-in_err-push_events.result c.from_residual-in_err-push_events.ensures.1 in
    rw (e.1, e.2) (record { later = c.in_ok-messages.ensures.runs.later; sides = omega (arith, c.in_ok-messages.ensures.runs.sides); ends = tt })

pub returns-clause-runs : goal.returns-clause-runs
returns-clause-runs g c = record { later = c.in_ok-messages.ensures.runs.later; sides = c.in_ok-messages.ensures.runs.sides; ends = tt }
