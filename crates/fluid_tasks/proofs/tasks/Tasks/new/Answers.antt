use Rattle.std.proofs.Common.{refl}
use Rattle.fluid_tasks.proofs.Answered.{nothing_kept}
use Rattle.fluid_tasks.proofs.tasks.Tasks.new.Goals as goal

pub returns : goal.returns
returns c = record {
  numbered = tt;
  heard = refl;
  keeps = nothing_kept c.new.result c.new-2.result c.new-3.result c.new-4.result c.new.ensures.empty c.new-2.ensures.empty c.new-3.ensures.empty;
}
