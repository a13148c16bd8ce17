use Rattle.std.proofs.Common.{rules, ◌≡◌, ◌≤◌, ◌<◌, ℕ, ◌∙◌, None, sym, arith}
use Rattle.fluid_types.specs.Forms.{largest}
use Rattle.fluid_containers.specs.Stepping.{MayStand}
use Rattle.fluid_world.specs.Naming.{AreBounded, IsShortStep, refusal_by}
use Rattle.fluid_world.proofs.Stepped.{same_counted}
use Rattle.fluid_desk.proofs.Running.{run_more}
use Rattle.fluid_load.proofs.Passed.{refused_takes, accepted_takes, accepted_may}
use Rattle.fluid_load.proofs.stepping.pass_step.Goals as goal

pub take_step-requires : goal.take_step-requires
take_step-requires g c =
    let moment : 0 ≤ largest = omega arith in
    let stands : MayStand g.good c.args.lanes.now = c.requires.1.1.1.0 in
    let accepted : refusal_by c.args.names.now.table.values c.args.step ≡ None = sym c.refusal.ensures ∙ c.in-None.is in
    let short : IsShortStep c.args.step = c.requires.1.1.1.1.0 in
    let few : (n : ℕ) × (AreBounded n c.args.names.now.table.values × (n < largest)) = c.requires.1.1.1.1.1 in
    search rules

pub returns-in-Some-clause-does : goal.returns-in-Some-clause-does
returns-in-Some-clause-does g c = λ w good stands owned moment.
    refused_takes c.args.lanes.now.limits w c.args.step c.args.lanes.now c.args.objects.now c.args.names.now.table.values stands _ (sym c.in-Some.is ∙ c.refusal.ensures)

pub returns-in-Some-clause-numbers : goal.returns-in-Some-clause-numbers
returns-in-Some-clause-numbers g c = λ n few. same_counted c.args.names.now.table.values n few

pub returns-in-Ok-clause-does : goal.returns-in-Ok-clause-does
returns-in-Ok-clause-does g c = λ w good stands owned moment.
    accepted_takes c.args.lanes.now.limits w c.args.step c.args.lanes.now c.args.objects.now c.args.names.now.table.values stands (sym c.in-None.is ∙ c.refusal.ensures)
    c.take_step.new.lanes c.take_step.new.objects c.take_step.new.names.table.values (c.in-Ok.ensures.does w good stands owned moment).stands

pub returns-in-Some-clause-runs : goal.returns-in-Some-clause-runs
returns-in-Some-clause-runs g c = λ first steps run. run_more first steps c.args.lanes.now run

pub returns-clause-does : goal.returns-clause-does
returns-clause-does g c = λ w good stands owned moment.
    accepted_may c.args.lanes.now.limits w c.args.step c.args.lanes.now c.args.objects.now c.args.names.now.table.values stands (sym c.in-None.is ∙ c.refusal.ensures)
    c.take_step.new.lanes c.in-Err.stop (c.in-Err.ensures.does w good stands owned moment)
