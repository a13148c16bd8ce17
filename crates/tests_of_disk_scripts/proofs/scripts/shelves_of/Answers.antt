use Rattle.std.proofs.Common.{ap, ◌∙◌}
use Rattle.std.specs.FinMap.{get, get-empty}
use Rattle.fluid_log.specs.Shelving.{byte_order}
use Rattle.tests_of_disk_scripts.proofs.scripts.shelves_of.Goals as goal

pub add-added-requires : goal.add-added-requires
add-added-requires g c = ap (λ s. get s.seats c.name_of-name.result) c.new-shelves.ensures.is ∙ get-empty byte_order c.name_of-name.result
