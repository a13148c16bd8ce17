use denote.Param.Send.{sendable}
use Rattle.fluid_crossing.proofs.Services.{key-send, service-send, service-sync}
use Rattle.fluid_crossing.proofs.laws.services_cross.Goals as goal

pub sent-requires-send-T : goal.sent-requires-send-T
sent-requires-send-T g c κs within = search (service-send, sendable) depth 20

pub shared-requires-sync-T : goal.shared-requires-sync-T
shared-requires-sync-T g c κs within = search (service-sync, sendable) depth 20

pub sent-requires-2-send-T : goal.sent-requires-2-send-T
sent-requires-2-send-T g c κs within = search (key-send, sendable) depth 20
