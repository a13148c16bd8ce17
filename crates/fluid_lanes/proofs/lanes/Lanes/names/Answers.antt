use Rattle.std.proofs.Common.{arith}
use Rattle.fluid_lanes.proofs.Openings.{names_done}
use Rattle.fluid_lanes.proofs.lanes.Lanes.names.Goals as goal

pub returns : goal.returns
returns g c =
    rw (← c.self.view_is)
    (names_done c.loop-row.names.items c.as_slice-rows.result.now c.loop-row.row-index _ c.loop-row.invariant (omega (arith, c.loop-row-test.false)) c.as_slice-rows.ensures)
