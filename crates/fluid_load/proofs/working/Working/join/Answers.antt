use Rattle.std.proofs.Common.{sym, subst}
use Rattle.std.proofs.lemmas.Result.{err_from_is_err_and}
use Rattle.fluid_world.specs.Naming.{IsShortStep}
use Rattle.fluid_turns.specs.Quiet.{IsQuietStep}
use Rattle.fluid_load.specs.Quiet.{IsOwnStep}
use Rattle.fluid_load.specs.Standing.{Works}
use Rattle.fluid_load.specs.Acting.{step_done, joined}
use Rattle.fluid_load.proofs.Parts.{short_works}
use Rattle.fluid_load.proofs.Attached.{connect_short, connect_quiet, connect_own}
use Rattle.fluid_load.proofs.working.Working.join.Goals as goal

pub step-requires-clause-short : goal.step-requires-clause-short
step-requires-clause-short g c = subst IsShortStep (sym c.in_ok-step.ensures) (connect_short c.args.client)

pub step-requires-clause-quiet : goal.step-requires-clause-quiet
step-requires-clause-quiet g c = subst IsQuietStep (sym c.in_ok-step.ensures) (connect_quiet c.args.client)

pub step-requires-clause-own : goal.step-requires-clause-own
step-requires-clause-own g c = subst IsOwnStep (sym c.in_ok-step.ensures) (connect_own c.args.client)

pub returns-in_err-step : goal.returns-in_err-step
returns-in_err-step g c =
    let e = err_from_is_err_and c.from_residual.result c.from_residual.ensures.1 in
    rw (e.1, e.2) (short_works 1 (joined c.args.client) c.args.self.now)

pub returns : goal.returns
returns g c = subst (λ s. Works 1 (step_done s) c.args.self.now c.step.new.self c.step.result) c.in_ok-step.ensures c.step.ensures
