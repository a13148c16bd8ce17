use Rattle.fluid_desk.proofs.Handing as handing
use Rattle.fluid_desk.proofs.laws.faults_are_counted.Goals as goal

pub returns : goal.returns
returns c = handing.faults_are_counted
