use Rattle.std.proofs.Common.{◌≡◌}
use Rattle.fluid_doors.specs.Passing.{APass}
use Rattle.fluid_worker.specs.Tending.{Sweeps}
use Rattle.fluid_worker.proofs.tending.sweep.Given as goal

-- whatever leaves come from here on, all of it is so
abbrev pub invariant-sweeps : goal.invariant-sweeps
invariant-sweeps g l =
    (goal.iterator-sweeps g).can_next l.iterator' × (goal.iterator-sweeps g).is_finite l.iterator'
    × (l.pass.turn ≡ l.fn.door.turn)
    × ((q : APass) → Sweeps l.fn.door.turn.fixed l.pass q l.fn.moment → Sweeps l.fn.door.turn.fixed l.fn.pass q l.fn.moment)
