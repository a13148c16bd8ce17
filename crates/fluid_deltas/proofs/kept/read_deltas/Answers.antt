use Rattle.std.proofs.Common.{◌≡◌, ◌+◌, max, subst, arith}
use Rattle.std.proofs.lemmas.Result.{err_from_is_err_and}
use Rattle.fluid_deltas.specs.Ranges.{AreNumbersOf}
use Rattle.fluid_deltas.proofs.Reading.{has_read_nothing, has_read_more, has_read_fault, has_read_all}
use Rattle.fluid_deltas.proofs.kept.read_deltas.Goals as goal

pub loop-place-init : goal.loop-place-init
loop-place-init g c = rw c.new-messages.ensures.items (has_read_nothing _ _ _)

pub loop-place-preserved : goal.loop-place-preserved
loop-place-preserved g c =
    let read = c.in_ok-message.ensures in
    rw c.in_ok-push.ensures.items
    (has_read_more _ (g.K.Keeper.seen c.loop-place.keeper) _ _ _ _ _ _ c.loop-place.invariant c.loop-place.auto.place c.loop-place-test.true read.later read.reads read.same read.number read.decoded)

pub returns-in_err-message-clause-decoded : goal.returns-in_err-message-clause-decoded
returns-in_err-message-clause-decoded g c =
    let e = err_from_is_err_and c.from_residual.result c.from_residual.ensures.1 in
    rw (e.1, e.2) (has_read_fault _ (g.K.Keeper.seen c.loop-place.keeper) _ _ _ _ c.in_err-message.field-0.0 c.loop-place.invariant c.loop-place-test.true c.in_err-message.ensures.decoded)

pub returns-clause-decoded : goal.returns-clause-decoded
returns-clause-decoded g c = has_read_all _ (g.K.Keeper.seen c.loop-place.keeper) _ _ _ _ c.loop-place.invariant c.loop-place-test.false

pub returns-clause-numbers : goal.returns-clause-numbers
returns-clause-numbers g c =
    let within = c.loop-place.invariant.within in
    let at : c.loop-place.place ≡ max c.args.start c.args.end = omega (arith, c.loop-place.auto.place, c.loop-place-test.false, within) in
    subst (λ place. AreNumbersOf (c.args.start + 1) (place + 1) c.loop-place.messages.items) at c.loop-place.invariant.numbers

pub returns-clause-none : goal.returns-clause-none
returns-clause-none g c = λ none.
    let within = c.loop-place.invariant.within in
    let at : c.loop-place.place ≡ c.args.start = omega (arith, c.loop-place.auto.place, within, none) in
    c.loop-place.invariant.untouched at
