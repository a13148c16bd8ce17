use Rattle.fluid_document.proofs.Entering.{room_stands}
use Rattle.fluid_document.proofs.entry.make_room.Goals as goal

pub returns-in-Ok-clause-stands : goal.returns-in-Ok-clause-stands
returns-in-Ok-clause-stands g c = room_stands _ c.make_room.result _ _ _ _ c.make_room.ensures.flushes.puts c.make_room.ensures.pushed c.make_room.ensures.stands

pub returns-in-Err-DeltaFailed-clause-stands : goal.returns-in-Err-DeltaFailed-clause-stands
returns-in-Err-DeltaFailed-clause-stands g c = room_stands _ c.make_room.result _ _ _ _ c.make_room.ensures.flushes.puts c.make_room.ensures.pushed c.make_room.ensures.stands

pub returns-in-Err-NoMemory-clause-stands : goal.returns-in-Err-NoMemory-clause-stands
returns-in-Err-NoMemory-clause-stands g c = room_stands _ c.make_room.result _ _ _ _ c.make_room.ensures.flushes.puts c.make_room.ensures.pushed c.make_room.ensures.stands
