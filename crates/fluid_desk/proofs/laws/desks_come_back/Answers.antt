use Rattle.fluid_desk.proofs.Handing as handing
use Rattle.fluid_desk.proofs.laws.desks_come_back.Goals as goal

pub returns : goal.returns
returns c = handing.desks_come_back
