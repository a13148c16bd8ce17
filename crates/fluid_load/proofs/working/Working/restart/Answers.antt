use Rattle.std.proofs.Common.{sym, subst}
use Rattle.std.proofs.lemmas.Result.{err_from_is_err_and}
use Rattle.fluid_load.specs.Standing.{CanWork}
use Rattle.fluid_load.specs.Acting.{restarted}
use Rattle.fluid_load.proofs.Parts.{short_works}
use Rattle.fluid_load.proofs.Loaded.{restart_works}
use Rattle.fluid_load.proofs.working.Working.restart.Goals as goal

pub step-requires-clause-can : goal.step-requires-clause-can
step-requires-clause-can g c = subst (CanWork 1) (sym c.figures-stored.ensures.same) c.requires

pub step-requires-clause-own : goal.step-requires-clause-own
step-requires-clause-own g c = c.in_ok-document.ensures

pub returns-in_err-document : goal.returns-in_err-document
returns-in_err-document g c =
    let e = err_from_is_err_and c.from_residual.result c.from_residual.ensures.1 in
    rw (e.1, e.2) (short_works 1 restarted c.args.self.now)

pub returns : goal.returns
returns g c =
    restart_works c.in_ok-document.document c.saturating_sub.result c.figures-stored.result c.args.self.now c.figures-stored.new.self c.step.new.self c.step.result c.figures-stored.ensures.same c.in_ok-document.ensures c.saturating_sub.ensures
    (λ w desk opened. c.figures-stored.ensures.are w desk c.in_ok-document.ensures opened) c.step.ensures
