use denote.Param.Send.{IsSend, IsSync, sendable, param_send, param_sync}
use Rattle.fluid_serve.proofs.Sharing.{sessions-sync}
use Rattle.fluid_serve.proofs.Jobs.{sitting-send}
use Rattle.fluid_serve.proofs.serving.fn.run_both.join+arg2.Goals as goal

pub serve_all-end-requires-send-F : goal.serve_all-end-requires-send-F
serve_all-end-requires-send-F g c κs within = search sendable depth 20

pub serve_all-end-requires-send-F-W : goal.serve_all-end-requires-send-F-W
serve_all-end-requires-send-F-W g c κs within = search (c.requires-raw.1.1.1.1.1.1.1.1.1.1.1.1.1, sendable) depth 20

pub serve_all-end-requires-send-F-S : goal.serve_all-end-requires-send-F-S
serve_all-end-requires-send-F-S g c κs within = search (c.requires-raw.1.1.1.1.1.1.1.1.1.1.1.1.1, sendable) depth 20

pub serve_all-end-requires-send-F-B : goal.serve_all-end-requires-send-F-B
serve_all-end-requires-send-F-B g c κs within = search (c.requires-raw.1.1.1.1.1.1.1.1.1.1.1.1.1, sendable) depth 20

pub serve_all-end-requires-send-H-Job : goal.serve_all-end-requires-send-H-Job
serve_all-end-requires-send-H-Job g c κs within = search (c.requires-raw.1.1.1.1.1.1.1.1.1.1.1.1.1, sitting-send, sendable) depth 20

pub serve_all-end-requires-sync-H : goal.serve_all-end-requires-sync-H
serve_all-end-requires-sync-H g c κs within = search (c.requires-raw.1.1.1.1.1.1.1.1.1.1.1.1.1, sessions-sync, sendable) depth 20
