use Rattle.fluid_workload.proofs.Computed.{submissions}
use Rattle.fluid_workload.proofs.examples.submissions.Goals as goal

pub returns : goal.returns
returns c = submissions
