use Rattle.std.proofs.Common.{ap₂}
use Rattle.std.proofs.lemmas.Result.{err_from_is_err_and}
use Rattle.fluid_loader.specs.declared.link.Pick.TheVariants.{Empty}
use Rattle.fluid_steps.specs.declared.steps.Step.TheVariants as step
use Rattle.fluid_load.specs.Acting.{loaded_first}
use Rattle.fluid_load.proofs.Parts.{short_opens}
use Rattle.fluid_load.proofs.working.Working.load_first.Goals as goal

pub opening_step-requires-clause-load : goal.opening_step-requires-clause-load
opening_step-requires-clause-load g c = ap₂ (λ n d. step.Load n d Empty) c.in_ok-name.ensures c.in_ok-document.ensures

pub returns-in_err-name : goal.returns-in_err-name
returns-in_err-name g c =
    let e = err_from_is_err_and c.from_residual.result c.from_residual.ensures.1 in
    rw (e.1, e.2) (short_opens 1 loaded_first c.args.self.now)

pub returns-in_err-document : goal.returns-in_err-document
returns-in_err-document g c =
    let e = err_from_is_err_and c.from_residual-in_err-document.result c.from_residual-in_err-document.ensures.1 in
    rw (e.1, e.2) (short_opens 1 loaded_first c.args.self.now)
