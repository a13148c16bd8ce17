use Rattle.std.proofs.Common.{length}
use Rattle.fluid_load.proofs.Going.{IsGoing}
use Rattle.fluid_load.proofs.running.do_others.Given as goal

abbrev pub invariant-loop : goal.invariant-loop
invariant-loop g l = IsGoing l.fn.acts l.acts l.fn.working l.working

abbrev pub decreases-loop : goal.decreases-loop
decreases-loop g l = length l.acts
