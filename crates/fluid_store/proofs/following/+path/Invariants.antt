use Rattle.std.proofs.Common.{length}
use Rattle.fluid_store.proofs.following.+path.Given as goal

abbrev pub decreases-at_end : goal.decreases-at_end
decreases-at_end g l = length l.path.now
