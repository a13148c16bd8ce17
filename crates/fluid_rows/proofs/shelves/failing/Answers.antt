use Rattle.std.proofs.Common.{ap, ◌∙◌}
use Rattle.std.specs.FinMap.{get, get-empty}
use Rattle.fluid_log.specs.Shelving.{byte_order}
use Rattle.fluid_log.specs.Places.{MemoryShelving, shelves_seen}
use Rattle.fluid_log.proofs.Lending.{whole_in}
use Rattle.fluid_rows.proofs.shelves.failing.Goals as goal

pub add-requires : goal.add-requires
add-requires c = ap (λ (s : MemoryShelving). get s.places c.in_ok-name.name) c.new-shelves.ensures.is ∙ get-empty byte_order c.in_ok-name.name

pub keeper-requires : goal.keeper-requires
keeper-requires c = whole_in (shelves_seen c.add.new.self) _ (c.add.ensures.whole c.new-shelves.ensures.whole)

pub keeper-requires-2 : goal.keeper-requires-2
keeper-requires-2 c =
    ap (λ out. get out c.in_ok-name-2.name) c.in-Err.ensures.does.out ∙ whole_in (shelves_seen c.add.new.self) c.in_ok-name-2.name (c.add.ensures.whole c.new-shelves.ensures.whole)
