use contract.Lifetimes.{Lfts}
use denote.Param.{param}
use denote.Param.Send.{IsSend, IsSync, sendable, param_send}
use Rattle.std.proofs.Crossing.{send, crosses}
use Rattle.crossbeam_channel.proofs.channel.Sender.TheSendSync as sender
use Rattle.fluid_hints.proofs.bell.Bell.TheSendSync as bell
use Rattle.fluid_crossing.proofs.Services.{service-sync}
use Rattle.fluid_serve.proofs.serving.run_both.Given.{Over}
use Rattle.fluid_serve.proofs.serving.run_both.Lts.{arg-2-1}
use Rattle.fluid_serve.proofs.serving.run_both.Goals as goal

crossing : (g : Over) (κs : Lfts 16) → IsSend (param 1 g.row.B) → IsSend (param 6 g.row.B-K) → IsSend (param 2 g.row.O) → IsSend (param 4 g.row.F) → IsSend (param 5 g.row.P) → IsSync (param 0 g.row.R) → IsSync (param 3 g.row.C) →
    IsSend (arg-2-1 g.row.R g.row.B g.row.O g.row.C g.row.F g.row.P g.row.B-K g.row.F-W g.row.F-S g.row.F-B g.R.laws g.B.laws g.O.laws g.C.laws g.F.laws g.P.laws g.B.K.laws g.F.W.laws g.F.S.laws g.F.B.laws g.R.Threads g.R.Threads-dict g.R.Wait g.R.Wait-dict g.B.Shelves g.B.Shelves-dict g.B.K.Keeper g.B.K.Keeper-dict g.O.Objects g.O.Objects-dict g.C.Clock g.C.Clock-dict g.F.Front g.F.Front-dict g.F.W.Wire g.F.W.Wire-dict g.F.S.Station g.F.S.Station-dict g.F.B.Bell g.F.B.Bell-dict g.P.Spawner g.P.Spawner-dict g.B.Destruct-dict g.O.Destruct-dict g.C.Destruct-dict g.F.Destruct-dict g.P.Destruct-dict g.B.K.Destruct-dict g.F.W.Destruct-dict g.F.S.Destruct-dict g.F.B.Destruct-dict κs)
crossing g κs b k o f p r t = search (service-sync, sender.the_send, bell.the_send, send, crosses, sendable) depth 20

pub join-served-requires-send-F : goal.join-served-requires-send-F
join-served-requires-send-F g c κs within =
    let bounds = c.type_bounds in
    param_send 1 _ (crossing g κs bounds.send-B bounds.send-B-K bounds.send-O bounds.send-F bounds.send-P bounds.sync-R bounds.sync-C)
