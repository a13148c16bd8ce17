use Rattle.std.proofs.Common.{ap, ◌∙◌}
use Rattle.std.specs.FinMap.{get, get-empty}
use Rattle.fluid_log.specs.Shelving.{byte_order}
use Rattle.tests_of_scripts.proofs.faults.shelves_with.Goals as goal

pub add-requires : goal.add-requires
add-requires g c = ap (λ s. get s.places c.name_of-name.result) c.new-shelves.ensures.is ∙ get-empty byte_order c.name_of-name.result
