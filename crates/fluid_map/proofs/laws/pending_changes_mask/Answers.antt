use Rattle.fluid_map.proofs.Replays.{masked_law}
use Rattle.fluid_map.proofs.laws.pending_changes_mask.Goals as goal

pub returns : goal.returns
returns c = masked_law
