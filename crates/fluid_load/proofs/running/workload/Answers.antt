use Rattle.std.proofs.Common.{arith}
use Rattle.fluid_world.specs.Ending.{full}
use Rattle.fluid_alike.specs.Alike.{HasRoom}
use Rattle.fluid_load.proofs.running.workload.Goals as goal

pub returns-clause-same : goal.returns-clause-same
returns-clause-same g c = λ done.
    let room : HasRoom full c.args.clients c.args.ops = record { for_entries = omega (arith, c.requires.1.1.1.1.1.0.1, c.requires.1.1.1.1.1.1.0.1); for_clients = omega (arith, c.requires.1.1.1.1.1.0.1) } in
    c.workload_within.ensures.same done room
