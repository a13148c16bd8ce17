use Rattle.std.proofs.Common.{sym, subst}
use Rattle.std.proofs.lemmas.Result.{err_from_is_err_and}
use Rattle.fluid_load.specs.Standing.{CanWork}
use Rattle.fluid_load.specs.Acting.{loaded_last}
use Rattle.fluid_load.proofs.Parts.{short_works, short_behind}
use Rattle.fluid_load.proofs.Loaded.{load_last_works}
use Rattle.fluid_load.proofs.working.Working.load_last.Goals as goal

pub step-requires-clause-can : goal.step-requires-clause-can
step-requires-clause-can g c = subst (CanWork 1) (sym c.figures-summaries.ensures.same) c.requires

pub step-requires-clause-own : goal.step-requires-clause-own
step-requires-clause-own g c = c.in_ok-document.ensures

pub returns-in_err-document : goal.returns-in_err-document
returns-in_err-document g c =
    let e = err_from_is_err_and c.from_residual.result c.from_residual.ensures.1 in
    rw (e.1, e.2) (short_works 1 loaded_last c.args.self.now)

pub returns-in_err-name : goal.returns-in_err-name
returns-in_err-name g c =
    let e = err_from_is_err_and c.from_residual-in_err-name.result c.from_residual-in_err-name.ensures.1 in
    rw (e.1, e.2) (short_behind 1 loaded_last c.args.self.now c.figures-summaries.new.self c.figures-summaries.ensures.same)

pub returns : goal.returns
returns g c =
    load_last_works c.in_ok-name.name c.in_ok-document.document c.picked.result c.figures-summaries.result c.args.self.now c.figures-summaries.new.self c.step.new.self c.step.result c.figures-summaries.ensures.same c.in_ok-name.ensures c.in_ok-document.ensures c.picked.ensures
    (λ w desk opened. c.figures-summaries.ensures.are w desk c.in_ok-document.ensures opened) c.step.ensures
