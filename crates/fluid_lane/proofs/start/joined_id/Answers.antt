use Rattle.std.proofs.Common.{ap, arith}
use Rattle.std.specs.FinMap.{len}
use Rattle.fluid_lane.proofs.Quiet.{id_there}
use Rattle.fluid_lane.proofs.start.joined_id.Goals as goal

pub unreachable-requires : goal.unreachable-requires
unreachable-requires c = id_there c.clients.result.now.rows c.args.place (omega (arith, c.requires, ap len c.clients.ensures)) c.in-None.ensures
