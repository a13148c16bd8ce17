use Rattle.std.proofs.lemmas.Bool.{false≢true}
use Rattle.fluid_table.proofs.KeyedPlaces.{get_gap}
use Rattle.fluid_clients.specs.Seats.{id_of, row_of}
use Rattle.fluid_clients.proofs.table.joined_at.Goals as goal

-- a client that is joined has no gap
pub returns-in-Err : goal.returns-in-Err
returns-in-Err c =
    let missing = get_gap id_of row_of _ c.requires.order c.args.id.now _ c.in-Err.ensures.absent in
    absurd (false≢true (rw missing at c.requires.joined))
