use Rattle.std.proofs.Common.{subst, Ok}
use Rattle.std.proofs.lemmas.Result.{err_from_is_err_and}
use Rattle.fluid_steps.specs.declared.steps.Step.TheVariants as step
use Rattle.fluid_load.specs.Standing.{Works}
use Rattle.fluid_load.specs.Acting.{step_done, edited}
use Rattle.fluid_load.proofs.Parts.{short_works}
use Rattle.fluid_load.proofs.Submitting.{edits_submit}
use Rattle.fluid_load.proofs.working.Working.edit.Goals as goal

pub submitting_step-requires-clause-submits : goal.submitting_step-requires-clause-submits
submitting_step-requires-clause-submits g c = edits_submit c.submissions_are_counted.ensures c.in_ok-name.name c.args.edit

pub returns-in_err-name : goal.returns-in_err-name
returns-in_err-name g c =
    let e = err_from_is_err_and c.from_residual.result c.from_residual.ensures.1 in
    rw (e.1, e.2) (short_works 1 (edited c.args.edit) c.args.self.now)

pub returns : goal.returns
returns g c = subst (λ n. Works 1 (step_done (step.Edit n (Ok c.args.edit))) c.args.self.now c.submitting_step.new.self c.submitting_step.result) c.in_ok-name.ensures c.submitting_step.ensures
