use Rattle.fluid_doors.proofs.Lookings.{looks_same}
use Rattle.fluid_doors.proofs.bench.Bench.look.Goals as goal

pub returns-in-Summary-clause-says : goal.returns-in-Summary-clause-says
returns-in-Summary-clause-says g c = λ l stands. looks_same _ _ _ _ l c.in-Summary.is (c.summary.ensures l stands)
