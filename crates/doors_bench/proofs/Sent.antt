-- What a client takes to its thread.
use denote.Param.Send.{IsSend, sendable}
use Rattle.std.proofs.Crossing.{crosses}
use Rattle.fluid_log.specs.contracts.memory.MemoryKeeper as MemoryKeeper
use Rattle.fluid_crossing.proofs.Values.{text-send}
use Rattle.fluid_crossing.proofs.Services.{visit-send}
use Rattle.doors_bench.specs.contracts.submitting.Joined as Joined

keeper-send : IsSend MemoryKeeper.the_row
keeper-send = search (crosses, sendable) depth 40 fits 20000

pub joined-send : IsSend Joined.the_row
joined-send = search (visit-send, keeper-send, text-send, sendable) depth 40
