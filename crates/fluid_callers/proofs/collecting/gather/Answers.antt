use Rattle.std.proofs.Common.{sym, ◌∙◌}
use Rattle.fluid_callers.proofs.Collected.{gathers_none, next_reading, next_writing, left_unsound}
use Rattle.fluid_desk.proofs.Running.{run_more}
use Rattle.fluid_callers.proofs.collecting.gather.Goals as goal

pub returns-in-Fresh-clause-does : goal.returns-in-Fresh-clause-does
returns-in-Fresh-clause-does g c = λ w desk sound is at. rw c.none.ensures (gathers_none c.args.lanes.now w c.args.name.now c.args.voice.now desk is (sym c.state.ensures ∙ c.in-Fresh.is))

pub returns-in-Reading-clause-does : goal.returns-in-Reading-clause-does
returns-in-Reading-clause-does g c = λ w desk sound is at.
    c.gather_of.ensures.does w (next_reading c.args.voice.now c.in-Reading.document c.in-Reading.next (sym c.state.ensures ∙ c.in-Reading.is)) desk sound is at

pub returns-in-Writing-clause-does : goal.returns-in-Writing-clause-does
returns-in-Writing-clause-does g c = λ w desk sound is at.
    c.gather_of-in-Writing.ensures.does w (next_writing c.args.voice.now c.in-Writing.document _ c.in-Writing.next (sym c.state.ensures ∙ c.in-Writing.is)) desk sound is at

pub returns-in-Used-clause-does : goal.returns-in-Used-clause-does
returns-in-Used-clause-does g c = λ w desk sound is at. absurd (left_unsound w c.args.voice.now (sym c.state.ensures ∙ c.in-Used.is) sound)

pub returns-in-Fresh-clause-runs : goal.returns-in-Fresh-clause-runs
returns-in-Fresh-clause-runs g c = λ first steps run. run_more first steps c.args.lanes.now run

pub returns-in-Used-clause-runs : goal.returns-in-Used-clause-runs
returns-in-Used-clause-runs g c = λ first steps run. run_more first steps c.args.lanes.now run
