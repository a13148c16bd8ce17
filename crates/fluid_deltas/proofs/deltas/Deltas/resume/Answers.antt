use Rattle.fluid_deltas.proofs.Slices.{none_part}
use Rattle.fluid_deltas.proofs.deltas.Deltas.resume.Goals as goal

pub returns-clause-part : goal.returns-clause-part
returns-clause-part c = λ order reached numbered keepable. none_part _ order c.clear.ensures.messages reached numbered keepable
