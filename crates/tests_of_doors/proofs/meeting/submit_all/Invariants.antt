use Rattle.std.proofs.Common.{◌≡◌, length}
use Rattle.fluid_doors.specs.Passing.{APass}
use Rattle.tests_of_doors.specs.Meeting.{HasEntered}
use Rattle.tests_of_doors.proofs.meeting.submit_all.Given as goal

-- whatever comes of the rest, it is what comes of all
abbrev pub invariant-loop-operation : goal.invariant-loop-operation
invariant-loop-operation g l = record {
  len : l.operation-iterator.rest.len ≡ length l.operation-iterator.rest.items;
  turn : l.pass.turn ≡ l.fn.door.turn;
  all : (q : APass) → HasEntered l.operation-iterator.rest.items l.pass q → HasEntered l.fn.operations.items l.fn.pass q;
}
