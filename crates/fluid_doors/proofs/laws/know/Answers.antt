use Rattle.fluid_doors.proofs.Answering.{legal_seen}
use Rattle.fluid_doors.proofs.Passes.{own_few}
use Rattle.fluid_doors.proofs.laws.know.Goals as goal

pub returns-clause-legal : goal.returns-clause-legal
returns-clause-legal g c = λ told. let s = c.know.ensures.history.stood in legal_seen _ _ _ c.lanes_say_their_ledgers.ensures.says s.1.0.lane s.1.1 told

pub returns-clause-few : goal.returns-clause-few
returns-clause-few g c = own_few c.args.pass.now c.know.ensures.own

pub returns-clause-signed : goal.returns-clause-signed
returns-clause-signed g c = c.know.ensures.history.signed
