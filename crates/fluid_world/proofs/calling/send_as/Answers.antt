use Rattle.std.proofs.Common.{ℕ, ◌+◌, refl, subst}
use Rattle.std.proofs.lemmas.Result.{err_from_is_err_and}
use Rattle.std.specs.Prelude.{OnOk}
use Rattle.fluid_steps.specs.declared.steps.Step.TheVariants as step
use Rattle.fluid_transcript.specs.Transcript.{done}
use Rattle.fluid_desk.specs.declared.stop.Stop.TheVariants.{NoMemory}
use Rattle.fluid_desk.proofs.Honest.{may_want}
use Rattle.fluid_desk.proofs.Running.{run_more}
use Rattle.fluid_world.specs.Naming.{AreBounded}
use Rattle.fluid_world.proofs.Linked.{wanting_links}
use Rattle.fluid_world.proofs.calling.send_as.Goals as goal

pub returns-clause-numbers : goal.returns-clause-numbers
returns-clause-numbers g c =
    subst (λ t. OnOk c.send_first.result ((n : ℕ) → AreBounded n t → AreBounded (n + 1) c.send_first.new.names.table.values)) c.in_ok-reserve.ensures.same c.send_first.ensures.numbers

pub returns-in_err-reserve-clause-does : goal.returns-in_err-reserve-clause-does
returns-in_err-reserve-clause-does g c = λ w stands at.
    let e = err_from_is_err_and c.from_residual.result c.from_residual.ensures.1 in
    rw (e.1, e.2) (may_want (done c.args.lanes.now.limits w (step.Send c.args.name c.args.text.now)).world c.args.lanes.now NoMemory refl)

pub returns-in_err-reserve-clause-runs : goal.returns-in_err-reserve-clause-runs
returns-in_err-reserve-clause-runs g c = λ first steps run.
    let e = err_from_is_err_and c.from_residual.result c.from_residual.ensures.1 in
    rw (e.1, e.2) (wanting_links first (steps + 1) c.args.objects.now c.args.objects.now c.args.lanes.now (run_more first steps c.args.lanes.now run) NoMemory refl)
