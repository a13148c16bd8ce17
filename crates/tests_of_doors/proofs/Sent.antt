-- What a caller takes to its thread.
use denote.Param.Send.{IsSend, sendable, view_send}
use denote.Param.SendFields.{declared_send}
use Rattle.std.proofs.Crossing.{crosses}
use Rattle.fluid_types.specs.contracts.entries.Raw as Raw
use Rattle.fluid_log.specs.contracts.memory.MemoryKeeper as MemoryKeeper
use Rattle.fluid_crossing.proofs.Values.{json-send, client-send}
use Rattle.tests_of_doors.specs.contracts.operation.Operation as Operation
use Rattle.tests_of_doors.specs.contracts.operation.Operation.TheInside as Inside

pub keeper-send : IsSend MemoryKeeper.the_row
keeper-send = search (crosses, sendable) depth 40 fits 20000

raw-send : IsSend Raw.the_row
raw-send = search (crosses, json-send, client-send, sendable) depth 60 fits 20000

pub operation-send : IsSend Operation.the_row
operation-send = view_send _ _ _ _ _ (declared_send Inside.the_type (search (raw-send, sendable) depth 20, tt))
