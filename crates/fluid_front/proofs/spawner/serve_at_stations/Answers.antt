use Rattle.fluid_front.proofs.Served.{serves_behind}
use Rattle.fluid_front.proofs.spawner.serve_at_stations.Goals as goal

pub returns : goal.returns
returns g c =
    serves_behind c.args.connections (g.F.Front.seen c.args.front) (g.F.Front.seen c.open_desks.new.front) (g.F.Front.seen c.scoped.result.1) c.scoped.result.0 c.open_desks.ensures.counts c.open_desks.ensures.same c.scoped.ensures.1
