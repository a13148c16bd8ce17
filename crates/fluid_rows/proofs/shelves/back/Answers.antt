use Rattle.fluid_log.specs.Places.{shelves_seen}
use Rattle.fluid_log.proofs.Lending.{whole_in, given_out}
use Rattle.fluid_rows.proofs.shelves.back.Goals as goal

pub keeper-requires : goal.keeper-requires
keeper-requires c = whole_in (shelves_seen c.new-shelves.result) _ c.new-shelves.ensures.whole

pub put_back-requires : goal.put_back-requires
put_back-requires c = given_out _ _ _ _ c.in_ok-keeper.ensures.does
