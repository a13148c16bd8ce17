use Rattle.std.proofs.lemmas.Bool.{false≢true}
use Rattle.fluid_table.proofs.KeyedPlaces.{get_gap}
use Rattle.fluid_lanes.proofs.rows.place_of.Goals as goal

-- a name that is there has no gap
pub returns-in-Err : goal.returns-in-Err
returns-in-Err g c =
    let missing = get_gap _ _ _ c.requires.order c.args.name.now _ c.in-Err.ensures.absent in
    absurd (false≢true (rw missing at c.requires.there))
