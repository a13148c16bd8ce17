use Rattle.std.proofs.Common.{◌≡◌, ◌<◌}
use Rattle.fluid_connection.specs.Knowing.{knowing}
use Rattle.fluid_connection.specs.Slices.{Brings}
use Rattle.fluid_connection.proofs.collecting.collect_slices.Given as goal

-- all that was collected so far
abbrev pub invariant-slices : goal.invariant-slices
invariant-slices g l =
    (goal.iterator-slices g).can_next l.iterator' × (goal.iterator-slices g).is_finite l.iterator'
    × (l.pass.turn ≡ l.fn.door.turn)
    × (0 < l.next)
    × Brings l.fn.door.name (knowing l.fn.door.name l.fn.pass) (knowing l.fn.door.name l.pass) l.fn.next l.next l.events
