use Rattle.fluid_lane.proofs.Composed.{enters_on}
use Rattle.fluid_lane.proofs.lane.Lane.conclude.Goals as goal

pub returns-clause-enters : goal.returns-clause-enters
returns-clause-enters g c =
    let s = c.in-Ok.ensures in
    let a = c.add.ensures in
    enters_on _ c.args.self.now c.settle.new.self c.add.new.self c.add.result s.kept s.same s.reads s.goes.later a.entries a.owes a.cause a.reads a.kept a.outside
