use Rattle.fluid_turns.proofs.Tallied.{entries_counted}
use Rattle.fluid_turns.proofs.laws.entries_are_counted.Goals as goal

pub returns : goal.returns
returns c = entries_counted
