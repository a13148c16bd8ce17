use Rattle.fluid_world.specs.Ending.{Outside}
use Rattle.fluid_load.specs.Ending.{outside}
use Rattle.fluidd.proofs.Worked.{summarizes}
use Rattle.fluidd.proofs.run.run_workload.Goals as goal

pub returns : goal.returns
returns g c =
    let before : Outside = outside (g.K.Sink.seen c.args.output.now) (g.B.Shelves.seen c.args.desk.shelves) (g.O.Objects.seen c.args.desk.objects) in
    let now : Outside = outside (g.K.Sink.seen c.workload-end.new.output) (g.B.Shelves.seen c.workload-end.result.1) (g.O.Objects.seen c.workload-end.result.2) in
    rw (c.code.ensures, c.script_status.ensures) (summarizes g.told c.args.number c.args.clients c.args.ops before now c.workload-end.ensures.whole c.workload-end.result.0 c.workload-end.ensures.cause c.workload-end.ensures.writes c.workload-end.ensures.same)
