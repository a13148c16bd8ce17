use Rattle.std.proofs.Common.{subst}
use Rattle.std.proofs.lemmas.Result.{err_from_is_err_and}
use Rattle.fluid_steps.specs.declared.steps.Step.TheVariants as step
use Rattle.fluid_load.specs.Standing.{Works}
use Rattle.fluid_load.specs.Acting.{step_done, checkpointed}
use Rattle.fluid_load.proofs.Parts.{short_works}
use Rattle.fluid_load.proofs.working.Working.checkpoint.Goals as goal

pub step-requires-clause-own : goal.step-requires-clause-own
step-requires-clause-own g c = c.in_ok-document.ensures

pub returns-in_err-document : goal.returns-in_err-document
returns-in_err-document g c =
    let e = err_from_is_err_and c.from_residual.result c.from_residual.ensures.1 in
    rw (e.1, e.2) (short_works 1 checkpointed c.args.self.now)

pub returns : goal.returns
returns g c = subst (λ n. Works 1 (step_done (step.Checkpoint n)) c.args.self.now c.step.new.self c.step.result) c.in_ok-document.ensures c.step.ensures
