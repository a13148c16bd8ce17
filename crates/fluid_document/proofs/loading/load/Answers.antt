use Rattle.std.proofs.Common.{sym, arith}
use Rattle.fluid_deltas.proofs.Telling.{tells_along}
use Rattle.fluid_document.proofs.Beginnings.{reads_behind, bad_behind}
use Rattle.fluid_document.proofs.Progress.{puts_none, puts_both}
use Rattle.fluid_document.proofs.Handed.{handed_on}
use Rattle.fluid_document.proofs.loading.load.Goals as goal

pub returns-in_err-document-clause-puts : goal.returns-in_err-document-clause-puts
returns-in_err-document-clause-puts g c = puts_none _ _ c.in_err-document.ensures.same

pub returns-in_err-document-clause-kept : goal.returns-in_err-document-clause-kept
returns-in_err-document-clause-kept g c =
    rw (handed_on c.from_residual.result _ c.from_residual.ensures.1) (λ l kept. tells_along _ _ _ (sym c.in_err-document.ensures.same.content) kept)

pub returns-in_err-fold_behind-clause-puts : goal.returns-in_err-fold_behind-clause-puts
returns-in_err-fold_behind-clause-puts g c = puts_both _ (g.K.Keeper.seen c.begin.new.keeper) _ (puts_none _ _ c.in_ok-document.ensures.same) c.in_err-fold_behind.ensures.puts

pub returns-in_err-fold_behind-clause-kept : goal.returns-in_err-fold_behind-clause-kept
returns-in_err-fold_behind-clause-kept g c =
    rw (handed_on c.from_residual-in_err-fold_behind.result _ c.from_residual-in_err-fold_behind.ensures.1)
    (λ l kept. c.in_err-fold_behind.ensures.kept l (tells_along _ _ _ (sym c.in_ok-document.ensures.same.content) (c.in_ok-document.ensures.kept l kept)))

pub returns-clause-puts : goal.returns-clause-puts
returns-clause-puts g c = puts_both _ (g.K.Keeper.seen c.begin.new.keeper) _ (puts_none _ _ c.in_ok-document.ensures.same) c.in_ok-fold_behind.ensures.puts

pub returns-clause-reads : goal.returns-clause-reads
returns-clause-reads g c = reads_behind _ c.args.from _ _ _ _ _ _ c.in_ok-document.ensures.same.records c.in_ok-document.ensures.reads c.in_ok-fold_behind.ensures.reads c.in_ok-document.ensures.begun

pub returns-clause-kept : goal.returns-clause-kept
returns-clause-kept g c = λ l kept.
    c.in_ok-fold_behind.ensures.kept l (tells_along _ _ _ (sym c.in_ok-document.ensures.same.content) (c.in_ok-document.ensures.kept l kept))

pub returns-in_err-fold_behind-clause-loaded : goal.returns-in_err-fold_behind-clause-loaded
returns-in_err-fold_behind-clause-loaded g c =
    rw (handed_on c.from_residual-in_err-fold_behind.result _ c.from_residual-in_err-fold_behind.ensures.1)
    (bad_behind _ c.args.from _ c.in_err-fold_behind.field-0.0 c.in_ok-document.ensures.begun (tells_along _ _ _ c.in_ok-document.ensures.same.content c.in_err-fold_behind.ensures.loaded))

pub returns-in_err-document-clause-lacked : goal.returns-in_err-document-clause-lacked
returns-in_err-document-clause-lacked g c = omega (arith, c.in_err-document.ensures.same.deltas)

pub returns-in_err-fold_behind-clause-lacked : goal.returns-in_err-fold_behind-clause-lacked
returns-in_err-fold_behind-clause-lacked g c = omega (arith, c.in_ok-document.ensures.same.deltas, c.in_ok-document.ensures.same.records, c.in_err-fold_behind.ensures.lacked)

pub returns-clause-lacked : goal.returns-clause-lacked
returns-clause-lacked g c = omega (arith, c.in_ok-document.ensures.same.deltas, c.in_ok-document.ensures.same.records, c.in_ok-fold_behind.ensures.lacked)

pub returns-clause-early : goal.returns-clause-early
returns-clause-early g c = omega (arith, c.in_ok-document.ensures.same.deltas, c.in_ok-fold_behind.ensures.early)
