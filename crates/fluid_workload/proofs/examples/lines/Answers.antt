use Rattle.fluid_workload.proofs.Computed.{lines}
use Rattle.fluid_workload.proofs.examples.lines.Goals as goal

pub returns : goal.returns
returns c = lines
