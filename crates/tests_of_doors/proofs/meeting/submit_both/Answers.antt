use denote.Param.Send.{sendable}
use Rattle.std.proofs.Crossing.{crosses}
use Rattle.fluid_crossing.proofs.Doors.{door-sync, pass-send}
use Rattle.tests_of_doors.proofs.Sent.{keeper-send, operation-send}
use Rattle.tests_of_doors.proofs.meeting.submit_both.Goals as goal

pub join-requires-send-F : goal.join-requires-send-F
join-requires-send-F g c κs within = search (door-sync, pass-send, keeper-send, operation-send, crosses, sendable) depth 30

pub join-requires-send-A : goal.join-requires-send-A
join-requires-send-A g c κs within = search (pass-send, keeper-send, sendable) depth 20
