use Rattle.std.proofs.Common.{refl}
use Rattle.fluid_quorum.proofs.Placed.{none_at}
use Rattle.fluid_quorum.proofs.Taken.{of_nothing}
use Rattle.fluid_quorum.proofs.quorum.Quorum.new.Goals as goal

pub returns : goal.returns
returns c = of_nothing _ refl refl (none_at c.new.result c.new.ensures.empty) c.new-2.ensures.items (none_at c.new-3.result c.new-3.ensures.empty)
