use Rattle.std.proofs.Common.{rules, arith, subst}
use Rattle.std.specs.Prelude.{IfSome}
use Rattle.std.proofs.lemmas.Result.{err_from_is_err_and}
use Rattle.fluid_types.specs.Fits.{Fits}
use Rattle.fluid_voice.specs.Fitting.{IsLeaveOrSubmission}
use Rattle.fluid_roamers.specs.Taking.{Gives}
use Rattle.fluid_roamers.proofs.Reading.{reads_nothing, reads_ok}
use Rattle.fluid_roamers.proofs.Sendings.{sends_nothing, sends_first}
use Rattle.fluid_roamers.proofs.sending.send.Goals as goal

pub next-requires-clause-moment : goal.next-requires-clause-moment
next-requires-clause-moment g c = omega (arith, c.requires.moment)

pub returns-in_err-entry-clause-does : goal.returns-in_err-entry-clause-does
returns-in_err-entry-clause-does g c = λ limits w d k rest of at stands going is.
    let e = err_from_is_err_and c.from_residual.result c.from_residual.ensures.1 in rw (e.1, e.2) tt

pub returns-in_err-entry-clause-runs : goal.returns-in_err-entry-clause-runs
returns-in_err-entry-clause-runs g c = reads_nothing c.args.lane.now _ (search rules)

pub returns-in-None-clause-does : goal.returns-in-None-clause-does
returns-in-None-clause-does g c = λ limits w d k rest of at stands going is.
    sends_nothing c.submissions_are_counted.ensures limits w d c.args.roamer.now k rest is going stands c.args.moment at c.next.new.self c.args.lane.now of
    (subst (Gives is.past c.args.moment c.args.roamer.now c.next.new.self) c.in-None.is (c.in_ok-entry.ensures.does is.past is.outbox))

pub returns-in-None-clause-runs : goal.returns-in-None-clause-runs
returns-in-None-clause-runs g c = reads_ok c.args.lane.now _

pub enter-requires-clause-kind : goal.enter-requires-clause-kind
enter-requires-clause-kind g c = (subst (λ entry. IfSome entry (λ raw. IsLeaveOrSubmission raw × Fits raw)) c.in-Some.is c.in_ok-entry.ensures.fits).0

pub enter-requires-clause-fits : goal.enter-requires-clause-fits
enter-requires-clause-fits g c = (subst (λ entry. IfSome entry (λ raw. IsLeaveOrSubmission raw × Fits raw)) c.in-Some.is c.in_ok-entry.ensures.fits).1

pub returns-in_err-refused-in-Some-clause-does : goal.returns-in_err-refused-in-Some-clause-does
returns-in_err-refused-in-Some-clause-does g c = λ limits w d k rest of at stands going is.
    let e = err_from_is_err_and c.from_residual-in_err-refused-in-Some.result c.from_residual-in_err-refused-in-Some.ensures.1 in rw (e.1, e.2) (c.in_err-refused-in-Some.ensures.does limits d of)

pub returns-in_err-refused-in-Some-clause-runs : goal.returns-in_err-refused-in-Some-clause-runs
returns-in_err-refused-in-Some-clause-runs g c =
    let e = err_from_is_err_and c.from_residual-in_err-refused-in-Some.result c.from_residual-in_err-refused-in-Some.ensures.1 in
    rw (e.1, e.2) (record { later = c.in_err-refused-in-Some.ensures.runs.later; sides = c.in_err-refused-in-Some.ensures.runs.sides; ends = c.in_err-refused-in-Some.ensures.runs.ends })

pub returns-in_ok-refused-in-Some-clause-does : goal.returns-in_ok-refused-in-Some-clause-does
returns-in_ok-refused-in-Some-clause-does g c = λ limits w d k rest of at stands going is.
    sends_first c.submissions_are_counted.ensures limits w d c.args.roamer.now k rest is going stands c.args.moment at c.next.new.self c.in-Some.raw
    (subst (Gives is.past c.args.moment c.args.roamer.now c.next.new.self) c.in-Some.is (c.in_ok-entry.ensures.does is.past is.outbox)) c.enter.new.lane c.became.new.roamer
    c.in_ok-refused-in-Some.refused c.became.result (c.in_ok-refused-in-Some.ensures.does limits d of) c.became.ensures.does

pub returns-in_ok-refused-in-Some-clause-runs : goal.returns-in_ok-refused-in-Some-clause-runs
returns-in_ok-refused-in-Some-clause-runs g c = record { later = c.in_ok-refused-in-Some.ensures.runs.later; sides = c.in_ok-refused-in-Some.ensures.runs.sides; ends = tt }

pub returns-in_ok-refused-in-Some-clause-kept : goal.returns-in_ok-refused-in-Some-clause-kept
returns-in_ok-refused-in-Some-clause-kept g c = c.became.ensures.kept c.in_ok-entry.ensures.kept
