use Rattle.std.proofs.Common.{arith}
use Rattle.fluid_lane.proofs.Quiet.{at_place, row_absent}
use Rattle.fluid_lane.proofs.Ids.{length-keys}
use Rattle.fluid_lane.proofs.silent.heard_at.Goals as goal

pub unreachable-requires : goal.unreachable-requires
unreachable-requires c =
    let rows = c.args.clients.now.rows in
    let here = at_place _ c.args.place (omega (arith, c.requires, length-keys rows)) in
    row_absent rows here.0 c.args.place here.1 (c.in-None.ensures here.0 here.1)
