use Rattle.fluid_world.specs.Ending.{Outside}
use Rattle.fluidd.proofs.Scripted.{scripts}
use Rattle.fluidd.proofs.run.run_script.Goals as goal

pub returns : goal.returns
returns g c =
    let before : Outside = record { source = g.S.Source.seen c.args.input.now; sink = g.K.Sink.seen c.args.output.now; shelves = g.B.Shelves.seen c.args.desk.shelves; store = g.O.Objects.seen c.args.desk.objects } in
    let now : Outside = record { source = g.S.Source.seen c.script-end.new.input; sink = g.K.Sink.seen c.script-end.new.output; shelves = g.B.Shelves.seen c.script-end.result.1; store = g.O.Objects.seen c.script-end.result.2 } in
    rw (c.code.ensures, c.script_status.ensures) (scripts g.told _ before now c.script-end.ensures.whole c.script-end.result.0 c.script-end.ensures.cause c.script-end.ensures.writes)
