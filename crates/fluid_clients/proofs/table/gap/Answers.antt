use Rattle.std.proofs.Common.{sym, ◌∙◌}
use Rattle.std.proofs.lemmas.Option.{none-some}
use Rattle.fluid_table.proofs.KeyedPlaces.{get_there}
use Rattle.fluid_clients.specs.Seats.{id_of, row_of}
use Rattle.fluid_clients.proofs.Seating.{no_seat}
use Rattle.fluid_clients.proofs.table.gap.Goals as goal

-- a client that isn't joined has no place
pub returns-in-Ok : goal.returns-in-Ok
returns-in-Ok c =
    let there = get_there id_of row_of _ c.requires.order c.args.id.now _ c.in-Ok.ensures.found no_seat in
    absurd (none-some _ (sym c.requires.absent ∙ there))
