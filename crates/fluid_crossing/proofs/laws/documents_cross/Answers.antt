use denote.Param.Send.{sendable}
use Rattle.fluid_crossing.proofs.Documents.{lane-send}
use Rattle.fluid_crossing.proofs.Doors.{door-send, door-sync, pass-send}
use Rattle.fluid_crossing.proofs.Services.{visit-send}
use Rattle.fluid_crossing.proofs.laws.documents_cross.Goals as goal

pub sent-requires-send-T : goal.sent-requires-send-T
sent-requires-send-T g c κs within = search (lane-send, sendable) depth 20

pub sent-requires-2-send-T : goal.sent-requires-2-send-T
sent-requires-2-send-T g c κs within = search (door-send, sendable) depth 20

pub shared-requires-sync-T : goal.shared-requires-sync-T
shared-requires-sync-T g c κs within = search (door-sync, sendable) depth 20

pub sent-requires-3-send-T : goal.sent-requires-3-send-T
sent-requires-3-send-T g c κs within = search (pass-send, sendable) depth 20

pub sent-requires-4-send-T : goal.sent-requires-4-send-T
sent-requires-4-send-T g c κs within = search (visit-send, sendable) depth 20
