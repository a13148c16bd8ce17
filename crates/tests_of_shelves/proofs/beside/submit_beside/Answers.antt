use denote.Param.Send.{sendable}
use Rattle.std.proofs.Crossing.{crosses}
use Rattle.fluid_crossing.proofs.Services.{visit-send}
use Rattle.tests_of_shelves.proofs.quiet.Quiet.TheSendSync.{the_send}
use Rattle.tests_of_shelves.proofs.beside.submit_beside.Goals as goal

pub join-requires-send-F : goal.join-requires-send-F
join-requires-send-F g c κs within = search (visit-send, the_send, crosses, sendable) depth 40
