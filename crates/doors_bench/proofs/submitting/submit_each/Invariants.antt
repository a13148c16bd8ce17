use Rattle.std.proofs.Common.{◌≡◌}
use Rattle.std.specs.Arc.{arc_value}
use Rattle.doors_bench.proofs.submitting.submit_each.Given as goal

-- the pass is one of the door
abbrev pub invariant-loop-operation : goal.invariant-loop-operation
invariant-loop-operation g l = l.pass.turn ≡ (arc_value l.door).turn
