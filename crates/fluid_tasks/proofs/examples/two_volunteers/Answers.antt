use Rattle.fluid_tasks.proofs.Computed.{two_volunteers_so}
use Rattle.fluid_tasks.proofs.examples.two_volunteers.Goals as goal

pub returns : goal.returns
returns c = two_volunteers_so
