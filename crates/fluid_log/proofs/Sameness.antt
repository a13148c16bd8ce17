-- Keepers that keep the same, for the crates above.
use Rattle.std.proofs.Common.{refl, ◌∙◌}
use Rattle.fluid_log.specs.Keeping.{Keeping}
use Rattle.fluid_log.specs.Calls.{KeepsSame}

pub same_itself : (k : Keeping) → KeepsSame k k
same_itself k = record { content = refl; records = refl; deltas = refl; checkpoints = refl }

pub same_twice : (old mid new : Keeping) → KeepsSame old mid → KeepsSame mid new → KeepsSame old new
same_twice old mid new first second = record {
  content = second.content ∙ first.content;
  records = second.records ∙ first.records;
  deltas = second.deltas ∙ first.deltas;
  checkpoints = second.checkpoints ∙ first.checkpoints;
}
