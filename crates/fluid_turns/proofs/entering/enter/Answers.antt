use Rattle.std.proofs.Common.{refl, sym, subst, ◌∙◌}
use Rattle.std.specs.Prelude.{◌≡◌, true}
use Rattle.fluid_transcript.specs.World.{is_open}
use Rattle.fluid_desk.proofs.Running.{lane_runs, run_more}
use Rattle.fluid_turns.proofs.Figured.{never_shut}
use Rattle.fluid_turns.proofs.Lanes.{enters_named}
use Rattle.fluid_turns.proofs.entering.enter.Goals as goal

pub returns-then-not-is_open-clause-does : goal.returns-then-not-is_open-clause-does
returns-then-not-is_open-clause-does g c = λ w client desk opened at.
    never_shut _ c.args.lanes.now w c.args.document.now desk (subst (λ n. is_open w n ≡ true) (sym at) opened) (sym c.is_open.ensures ∙ c.if-not-is_open.true)

pub returns-clause-does : goal.returns-clause-does
returns-clause-does g c = λ w client desk opened at.
    enters_named c.args.lanes.now.limits w client c.args.raw.now c.args.lanes.now c.args.document.now c.lent.result.now c.enter_lane.new.lane c.enter_lane.result refl desk opened at c.lent.ensures.value
    (c.enter_lane.ensures.does c.args.lanes.now.limits)

pub returns-clause-runs : goal.returns-clause-runs
returns-clause-runs g c = λ first steps run.
    lane_runs first steps c.args.lanes.now c.args.document.now c.lent.result.now c.enter_lane.new.lane c.enter_lane.result run c.lent.ensures.value c.lent.ensures.out c.enter_lane.ensures.runs

pub returns-then-not-is_open-clause-runs : goal.returns-then-not-is_open-clause-runs
returns-then-not-is_open-clause-runs g c = λ first steps run. run_more first steps c.args.lanes.now run
