use Rattle.fluid_lanes.proofs.Again.{reopened, reopened_perhaps}
use Rattle.fluid_lanes.proofs.lanes.Lanes.reopen.Goals as goal

pub returns-clause-again : goal.returns-clause-again
returns-clause-again g c = reopened c.args.name.now c.args.moment c.args.self.now c.end.new.self c.open.new.self c.open.result c.end.ensures c.open.ensures.does

pub returns-clause-owed : goal.returns-clause-owed
returns-clause-owed g c = reopened_perhaps c.args.name.now c.args.moment c.args.self.now c.end.new.self c.open.new.self c.open.result c.end.ensures c.open.ensures.does
