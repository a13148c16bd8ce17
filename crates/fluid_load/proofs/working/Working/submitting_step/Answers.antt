use Rattle.std.proofs.Common.{sym, subst}
use Rattle.std.proofs.lemmas.Result.{err_from_is_err_and}
use Rattle.fluid_load.specs.Standing.{CanPass}
use Rattle.fluid_load.specs.Acting.{step_done}
use Rattle.fluid_load.proofs.Moved.{submitted_so, submitted_not}
use Rattle.fluid_load.proofs.Parts.{can_pass, short_works}
use Rattle.fluid_load.proofs.working.Working.submitting_step.Goals as goal

pub pass-requires-clause-can : goal.pass-requires-clause-can
pass-requires-clause-can g c = subst CanPass (sym c.figures-before.ensures.same) (can_pass c.args.self.now c.requires.can)

pub returns-in_err-document : goal.returns-in_err-document
returns-in_err-document g c =
    let e = err_from_is_err_and c.from_residual.result c.from_residual.ensures.1 in
    rw (e.1, e.2) (short_works 1 (step_done c.args.step) c.args.self.now)

pub returns-in_err-pass : goal.returns-in_err-pass
returns-in_err-pass g c =
    let e = err_from_is_err_and c.from_residual-in_err-pass.result c.from_residual-in_err-pass.ensures.1 in
    rw (e.1, e.2) (submitted_not c.args.step c.args.self.now c.figures-before.new.self c.pass.new.self _ c.figures-before.ensures.same c.requires.own c.in_err-pass.ensures.on c.in_err-pass.ensures.does)

pub returns : goal.returns
returns g c =
    submitted_so c.args.step c.args.self.now c.figures-before.new.self c.pass.new.self c.figures-after.new.self c.count_nacked.new.self c.figures-before.result c.figures-after.result
    c.figures-before.ensures.same c.figures-after.ensures.same c.count_nacked.ensures c.requires.own c.requires.submits c.in_ok-pass.ensures.on c.in_ok-pass.ensures.does
    (λ w desk opened. c.figures-before.ensures.are w desk c.in_ok-document.ensures opened) (λ w desk opened. c.figures-after.ensures.are w desk c.in_ok-document.ensures opened) c.figures-after.ensures.few
