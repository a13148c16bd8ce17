use Rattle.fluid_turns.proofs.Tallied.{tally_grows}
use Rattle.fluid_turns.proofs.laws.tallies_grow.Goals as goal

pub returns : goal.returns
returns c = tally_grows
