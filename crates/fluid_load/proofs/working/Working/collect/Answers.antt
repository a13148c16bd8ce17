use Rattle.std.proofs.Common.{subst}
use Rattle.std.proofs.lemmas.Result.{err_from_is_err_and}
use Rattle.fluid_steps.specs.declared.steps.Step.TheVariants as step
use Rattle.fluid_load.specs.Standing.{Works}
use Rattle.fluid_load.specs.Acting.{step_done, collected}
use Rattle.fluid_load.proofs.Parts.{short_works}
use Rattle.fluid_load.proofs.working.Working.collect.Goals as goal

pub returns-in_err-name : goal.returns-in_err-name
returns-in_err-name g c =
    let e = err_from_is_err_and c.from_residual.result c.from_residual.ensures.1 in
    rw (e.1, e.2) (short_works 1 (collected c.args.client) c.args.self.now)

pub returns : goal.returns
returns g c = subst (λ n. Works 1 (step_done (step.Collect n)) c.args.self.now c.step.new.self c.step.result) c.in_ok-name.ensures c.step.ensures
