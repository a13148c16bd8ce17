use Rattle.fluid_callers.proofs.Departing.{left_fresh, left_reading}
use Rattle.fluid_desk.proofs.Running.{run_more}
use Rattle.fluid_callers.proofs.closing.leave.Goals as goal

pub returns-in-Fresh-clause-does : goal.returns-in-Fresh-clause-does
returns-in-Fresh-clause-does g c = λ w name desk sound at. rw c.in-Fresh.is (left_fresh c.args.lanes.now w name desk)

pub returns-in-Reading-clause-does : goal.returns-in-Reading-clause-does
returns-in-Reading-clause-does g c = λ w name desk sound at.
    rw c.in-Reading.is (left_reading c.args.lanes.now w name c.in-Reading.field-0 c.in-Reading.field-1 desk (rw c.in-Reading.is at sound))

pub returns-in-Writing-clause-does : goal.returns-in-Writing-clause-does
returns-in-Writing-clause-does g c = λ w name desk sound at.
    rw c.in-Writing.is (c.leave_document.ensures.does w name c.in-Writing.field-2 desk (rw c.in-Writing.is at sound) at)

pub returns-in-Fresh-clause-runs : goal.returns-in-Fresh-clause-runs
returns-in-Fresh-clause-runs g c = λ before steps run. run_more before steps c.args.lanes.now run

pub returns-in-Reading-clause-runs : goal.returns-in-Reading-clause-runs
returns-in-Reading-clause-runs g c = λ before steps run. run_more before steps c.args.lanes.now run

pub returns-in-Used-clause-runs : goal.returns-in-Used-clause-runs
returns-in-Used-clause-runs g c = λ before steps run. run_more before steps c.args.lanes.now run
