use Rattle.std.proofs.Common.{ap, ◌∙◌}
use Rattle.fluid_log.specs.Places.{given_with, values_where}
use Rattle.fluid_log.proofs.Covering.{below_empty}
use Rattle.fluid_log.proofs.Values.{values_where-empty}
use Rattle.fluid_log.proofs.memory_shelves.MemoryShelves.new.Goals as goal

pub invariant_of-result : goal.invariant_of-result
invariant_of-result c = rw c.new.ensures (below_empty 0)

pub returns-clause-whole : goal.returns-clause-whole
returns-clause-whole c = ap (values_where given_with) c.new.ensures ∙ values_where-empty given_with
