use Rattle.std.proofs.Common.{ap, ◌∙◌}
use Rattle.fluid_log.specs.Places.{values_where}
use Rattle.fluid_disk_shelves.specs.Shelves.{given_with}
use Rattle.fluid_disk_shelves.proofs.Covering.{below_empty, whole_empty}
use Rattle.fluid_disk_shelves.proofs.shelves.DiskShelves.new.Goals as goal

pub invariant_of-result : goal.invariant_of-result
invariant_of-result g c = rw c.new.ensures (below_empty g.row.D.Denot 0)

pub returns-clause-whole : goal.returns-clause-whole
returns-clause-whole g c = ap (values_where given_with) c.new.ensures ∙ whole_empty g.row.D.Denot
