use Rattle.fluid_voice.proofs.Computed.{long_ranges}
use Rattle.fluid_voice.proofs.examples.long_ranges.Goals as goal

pub returns : goal.returns
returns c = long_ranges
