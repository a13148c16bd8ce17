use Rattle.std.proofs.Common.{◌+◌, arith, ap, subst}
use Rattle.std.proofs.lemmas.Result.{err_from_is_err_and}
use Rattle.fluid_types.specs.Order.{AreNumberedFrom}
use Rattle.fluid_roamers.proofs.Reading.{reads_ok}
use Rattle.fluid_roamers.proofs.Taken.{hears_none, hears_some}
use Rattle.fluid_roamers.proofs.hearing.hear.Goals as goal

pub returns-then-last-heard-clause-does : goal.returns-then-last-heard-clause-does
returns-then-last-heard-clause-does g c = λ limits d past of stands.
    hears_none limits d past c.args.lane.now c.args.roamer.now of stands (omega (arith, c.if-last-heard.true, c.seq-last.ensures.is, c.seq-heard.ensures))

pub returns-then-last-heard-clause-runs : goal.returns-then-last-heard-clause-runs
returns-then-last-heard-clause-runs g c = reads_ok c.args.lane.now _

pub messages_from-requires-clause-first : goal.messages_from-requires-clause-first
messages_from-requires-clause-first g c = omega arith

pub messages_from-requires-clause-last : goal.messages_from-requires-clause-last
messages_from-requires-clause-last g c = ap (λ n. n + 1) c.seq-last.ensures.is

pub returns-in_err-messages-clause-does : goal.returns-in_err-messages-clause-does
returns-in_err-messages-clause-does g c = λ limits d past of stands.
    let e = err_from_is_err_and c.from_residual.result c.from_residual.ensures.1 in rw (e.1, e.2) (c.in_err-messages.ensures.does limits d of)

pub returns-in_err-messages-clause-runs : goal.returns-in_err-messages-clause-runs
returns-in_err-messages-clause-runs g c =
    let e = err_from_is_err_and c.from_residual.result c.from_residual.ensures.1 in
    rw (e.1, e.2) (record { later = c.in_err-messages.ensures.runs.later; sides = c.in_err-messages.ensures.runs.sides; ends = c.in_err-messages.ensures.runs.ends })

pub returns-in_err-take_all-clause-does : goal.returns-in_err-take_all-clause-does
returns-in_err-take_all-clause-does g c = λ limits d past of stands.
    let e = err_from_is_err_and c.from_residual-in_err-take_all.result c.from_residual-in_err-take_all.ensures.1 in rw (e.1, e.2) tt

pub returns-in_err-take_all-clause-runs : goal.returns-in_err-take_all-clause-runs
returns-in_err-take_all-clause-runs g c =
    let e = err_from_is_err_and c.from_residual-in_err-take_all.result c.from_residual-in_err-take_all.ensures.1 in
    rw (e.1, e.2) (record { later = c.in_ok-messages.ensures.runs.later; sides = omega (arith, c.in_ok-messages.ensures.runs.sides); ends = tt })

pub returns-clause-does : goal.returns-clause-does
returns-clause-does g c = λ limits d past of stands.
    hears_some limits d past c.messages_from.new.lane c.in_ok-messages.messages.items (c.seq-heard.result + 1) c.args.roamer.now c.take_all.new.roamer (c.in_ok-messages.ensures.does limits d of)
    (ap (λ n. n + 1) c.seq-heard.ensures) (c.in_ok-take_all.ensures.does past stands)

pub returns-clause-runs : goal.returns-clause-runs
returns-clause-runs g c = record { later = c.in_ok-messages.ensures.runs.later; sides = c.in_ok-messages.ensures.runs.sides; ends = tt }

pub take_all-requires-clause-next : goal.take_all-requires-clause-next
take_all-requires-clause-next g c = subst (λ n. AreNumberedFrom (n + 1) c.in_ok-messages.messages.items) c.seq-heard.ensures c.in_ok-messages.ensures.numbered
