use Rattle.std.proofs.Common.{arith}
use Rattle.std.proofs.lemmas.Result.{err_from_is_err_and}
use Rattle.fluid_load.proofs.Going.{going_first, going_next, gone, fewer_left}
use Rattle.fluid_load.proofs.running.do_others.Goals as goal

pub loop-init : goal.loop-init
loop-init g c = going_first c.args.acts.now c.args.working.now c.requires

pub do_next-requires : goal.do_next-requires
do_next-requires g c = c.loop.invariant.can

pub loop-preserved : goal.loop-preserved
loop-preserved g c = going_next _ _ _ _ _ _ c.loop.invariant (rw c.if-branch.true at c.in_ok-do_next.ensures)

pub loop-smaller : goal.loop-smaller
loop-smaller g c = omega (arith, fewer_left _ _ _ _ (rw c.if-branch.true at c.in_ok-do_next.ensures))

pub returns-in_err-do_next : goal.returns-in_err-do_next
returns-in_err-do_next g c =
    let e = err_from_is_err_and c.from_residual.result c.from_residual.ensures.1 in
    rw (e.1, e.2) (c.loop.invariant.whole _ _ c.in_err-do_next.ensures)

pub returns : goal.returns
returns g c = gone _ _ _ _ _ c.loop.invariant (rw c.if-branch.false at c.in_ok-do_next.ensures)
