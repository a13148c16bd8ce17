use Rattle.fluid_map.proofs.Laid.{none-laid}
use Rattle.fluid_map.proofs.pending.Pending.new.Goals as goal

pub invariant_of-result : goal.invariant_of-result
invariant_of-result c = rw (c.new.ensures.items, c.new-2.ensures) none-laid
