use Rattle.fluid_lane.proofs.Beginning.{ledger-steps}
use Rattle.fluid_lane.proofs.Says.{lane_says}
use Rattle.fluid_lane.proofs.laws.lanes_say_their_ledgers.Goals as goal

pub returns-clause-says : goal.returns-clause-says
returns-clause-says c = lane_says

pub returns-clause-ledger : goal.returns-clause-ledger
returns-clause-ledger c = ledger-steps
