use Rattle.std.proofs.Common.{ap, ◌∙◌}
use Rattle.std.specs.FinMap.{get, get-empty}
use Rattle.fluid_log.specs.Shelving.{byte_order}
use Rattle.fluid_log.specs.Places.{MemoryShelving, shelves_seen}
use Rattle.fluid_log.proofs.Lending.{whole_in, given_out}
use Rattle.fluid_rows.proofs.shelves.failed_outside.Goals as goal

pub add-requires : goal.add-requires
add-requires c = ap (λ (s : MemoryShelving). get s.places c.in_ok-name.name) c.new-shelves.ensures.is ∙ get-empty byte_order c.in_ok-name.name

pub keeper-requires : goal.keeper-requires
keeper-requires c = whole_in (shelves_seen c.add.new.self) _ (c.add.ensures.whole c.new-shelves.ensures.whole)

pub put_back-requires : goal.put_back-requires
put_back-requires c = given_out _ _ _ _ c.in_ok-keeper.ensures.does
