use Rattle.std.proofs.Common.{◌+◌, refl, subst}
use Rattle.fluid_runtime.specs.Shown.{shown}
use Rattle.fluid_steps.specs.declared.steps.Step.TheVariants as step
use Rattle.fluid_loader.specs.Calls.{shown_channels}
use Rattle.fluid_transcript.specs.Lines.{shown_line}
use Rattle.fluid_desk.specs.Acting.{IsLine}
use Rattle.fluid_desk.proofs.Doing.{used_of, many_of}
use Rattle.fluid_desk.proofs.Running.{line_runs, run_more, stops_more}
use Rattle.fluid_containers.proofs.LoadedDesk.{shows_on}
use Rattle.fluid_containers.proofs.OnDesk.{unstepped, never_away, about_shown}
use Rattle.fluid_containers.proofs.stepping.show.Goals as goal

pub returns-in-Ok-true-clause-does : goal.returns-in-Ok-true-clause-does
returns-in-Ok-true-clause-does g c = λ w k desk sound at named holder.
    let r = c.in-Ok-true in
    shows_on c.args.lanes.now c.ready.new.lanes w c.args.name.now c.args.holder.now.document c.args.moment k c.args.holder.now c.shown.result desk sound at named holder refl
    (used_of c.args.lanes.now c.ready.new.lanes c.args.holder.now.document c.args.moment r.field-0 r.field-0-test r.ensures.readied) r.ensures.limits
    (subst (λ n. IsLine (shown_line n c.args.holder.now.container.number (shown (shown_channels c.args.holder.now.container))) c.shown.result) c.as_str.ensures.bytes c.shown.ensures)

pub returns-in-Ok-true-clause-runs : goal.returns-in-Ok-true-clause-runs
returns-in-Ok-true-clause-runs g c = λ before steps run. line_runs before (steps + 1) c.ready.new.lanes _ c.shown.result (run_more before steps c.ready.new.lanes (c.in-Ok-true.ensures.runs before steps run)) c.shown.ensures

pub returns-in-Ok-false-clause-does : goal.returns-in-Ok-false-clause-does
returns-in-Ok-false-clause-does g c = λ w k desk sound at named holder.
    let r = c.in-Ok-false in
    let many = many_of c.args.lanes.now c.ready.new.lanes c.args.holder.now.document c.args.moment r.field-0 r.field-0-test r.ensures.readied in
    never_away c.args.lanes.now c.ready.new.lanes w c.args.name.now c.args.holder.now.document k c.args.holder.now many.0 desk sound named holder refl many.1

pub returns-in-Ok-false-clause-runs : goal.returns-in-Ok-false-clause-runs
returns-in-Ok-false-clause-runs g c = λ before steps run. line_runs before (steps + 1) c.ready.new.lanes _ c.beyond.result (run_more before steps c.ready.new.lanes (c.in-Ok-false.ensures.runs before steps run)) c.beyond.ensures

pub returns-in-Err-clause-does : goal.returns-in-Err-clause-does
returns-in-Err-clause-does g c = λ w k desk sound at named holder.
    unstepped c.args.lanes.now.limits c.ready.new.lanes w c.args.name.now c.args.holder.now.document (step.Show c.args.name.now) k c.args.holder.now c.in-Err.stop (about_shown w c.args.name.now k named) holder refl
    (c.in-Err.ensures.honest w desk)

pub returns-in-Err-clause-runs : goal.returns-in-Err-clause-runs
returns-in-Err-clause-runs g c = λ before steps run. stops_more before steps c.ready.new.lanes c.in-Err.stop (c.in-Err.ensures.runs before steps run)
