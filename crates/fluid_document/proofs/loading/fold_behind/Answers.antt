use Rattle.std.proofs.Common.{arith, sym, subst}
use Rattle.fluid_document.proofs.Takes.{takes_all, kept_at}
use Rattle.fluid_document.proofs.Progress.{HasFolded, has_folded_nothing, has_folded_more, has_folded_bad, has_folded_left, has_folded_worn, has_folded_all, puts_both, cause_behind}
use Rattle.fluid_document.proofs.Handed.{handed_on}
use Rattle.fluid_document.proofs.loading.fold_behind.Goals as goal

pub loop-place-init : goal.loop-place-init
loop-place-init g c =
    subst (HasFolded (g.K.Keeper.seen c.args.keeper.now) (g.K.Keeper.seen c.args.keeper.now) c.args.document.now c.args.document.now) (sym c.entered-place.ensures.is) (has_folded_nothing _ _ c.requires.reached)

pub loop-place-preserved : goal.loop-place-preserved
loop-place-preserved g c =
    let took = c.in_ok-take_next.ensures in
    has_folded_more _ (g.K.Keeper.seen c.loop-place.keeper) _ _ _ c.loop-place.invariant _ _ (omega (arith, c.if-place-ge-LARGEST.false)) (omega (arith, c.loop-place-test.true, c.len-end.ensures)) (g.K.Keeper.sized c.loop-place.keeper)
    took.later took.reads took.puts took.reached took.early took.lacked took.takes

pub returns-then-place-ge-LARGEST-clause-loaded : goal.returns-then-place-ge-LARGEST-clause-loaded
returns-then-place-ge-LARGEST-clause-loaded g c =
    has_folded_worn _ (g.K.Keeper.seen c.loop-place.keeper) _ _ _ c.loop-place.invariant (omega (arith, c.if-place-ge-LARGEST.true)) (omega (arith, c.loop-place-test.true, c.len-end.ensures)) (g.K.Keeper.sized c.args.keeper.now)

pub returns-then-place-ge-LARGEST-clause-kept : goal.returns-then-place-ge-LARGEST-clause-kept
returns-then-place-ge-LARGEST-clause-kept g c = λ l stands. kept_at l _ _ _ (c.loop-place.invariant.stands l stands)

pub returns-in_err-take_next-clause-cause : goal.returns-in_err-take_next-clause-cause
returns-in_err-take_next-clause-cause g c =
    let has = c.loop-place.invariant in
    rw (handed_on c.from_residual.result _ c.from_residual.ensures.1) (cause_behind _ _ _ _ _ c.in_err-take_next.field-0.0 has.puts.kept.records has.later c.in_err-take_next.ensures.cause)

pub returns-in_err-take_next-clause-puts : goal.returns-in_err-take_next-clause-puts
returns-in_err-take_next-clause-puts g c = puts_both _ (g.K.Keeper.seen c.loop-place.keeper) _ c.loop-place.invariant.puts c.in_err-take_next.ensures.puts

pub returns-in_err-take_next-clause-loaded : goal.returns-in_err-take_next-clause-loaded
returns-in_err-take_next-clause-loaded g c =
    rw (handed_on c.from_residual.result _ c.from_residual.ensures.1) (has_folded_bad _ (g.K.Keeper.seen c.loop-place.keeper) _ _ _ c.loop-place.invariant c.in_err-take_next.field-0.0 (omega (arith, c.if-place-ge-LARGEST.false)) c.in_err-take_next.ensures.takes.0)

pub returns-in_err-take_next-clause-kept : goal.returns-in_err-take_next-clause-kept
returns-in_err-take_next-clause-kept g c =
    let left = c.in_err-take_next.ensures in
    rw (handed_on c.from_residual.result _ c.from_residual.ensures.1)
    (λ l stands. has_folded_left _ (g.K.Keeper.seen c.loop-place.keeper) _ _ _ c.loop-place.invariant _ _ c.in_err-take_next.field-0.0 (omega (arith, c.loop-place-test.true, c.len-end.ensures)) (g.K.Keeper.sized c.loop-place.keeper)
    left.puts left.takes.1 l stands)

pub returns-clause-loaded : goal.returns-clause-loaded
returns-clause-loaded g c =
    has_folded_all _ (g.K.Keeper.seen c.loop-place.keeper) _ _ _ c.loop-place.invariant (omega (arith, c.loop-place-test.false, c.len-end.ensures)) (g.K.Keeper.sized c.args.keeper.now)

pub returns-clause-kept : goal.returns-clause-kept
returns-clause-kept g c = λ l stands.
    let has = c.loop-place.invariant in
    takes_all {A = Unit {0}} (λ _. c.loop-place.document) tt l c.loop-place.place (g.K.Keeper.seen c.loop-place.keeper) (omega (arith, c.loop-place-test.false, c.len-end.ensures, has.puts.kept.records)) (g.K.Keeper.sized c.loop-place.keeper) (has.stands l stands)

pub returns-in_err-take_next-clause-lacked : goal.returns-in_err-take_next-clause-lacked
returns-in_err-take_next-clause-lacked g c =
    let has = c.loop-place.invariant in
    omega (arith, has.early, has.lacked, c.in_err-take_next.ensures.lacked, c.loop-place-test.true, c.len-end.ensures)

pub returns-then-place-ge-LARGEST-clause-lacked : goal.returns-then-place-ge-LARGEST-clause-lacked
returns-then-place-ge-LARGEST-clause-lacked g c = omega (arith, c.loop-place.invariant.lacked, c.loop-place-test.true, c.len-end.ensures)

pub returns-clause-lacked : goal.returns-clause-lacked
returns-clause-lacked g c = omega (arith, c.loop-place.invariant.lacked, c.loop-place.auto.place-end, c.len-end.ensures)
