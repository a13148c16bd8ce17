use denote.Param.Send.{sendable}
use Rattle.std.proofs.Crossing.{crosses}
use Rattle.doors_bench.proofs.Sent.{joined-send}
use Rattle.doors_bench.proofs.submitting.Course.TheSendSync.{the_sync}
use Rattle.doors_bench.proofs.submitting.fn.run.scope.Goals as goal

pub spawn-requires-send-F : goal.spawn-requires-send-F
spawn-requires-send-F g c κs within = search (joined-send, the_sync, crosses, sendable) depth 30
