use Rattle.fluid_steps.proofs.Computed.{one_of_each, blanks, outside, edits}
use Rattle.fluid_steps.proofs.examples.lines_and_steps.Goals as goal

pub returns : goal.returns
returns c = record { each = one_of_each; blanks = blanks; outside = outside; edits = edits }
