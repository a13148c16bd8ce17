use Rattle.fluid_store.proofs.Stays.{empty_store}
use Rattle.fluid_store.proofs.laws.nothing_is_complete_in_an_empty_store.Goals as goal

pub returns : goal.returns
returns c = empty_store
