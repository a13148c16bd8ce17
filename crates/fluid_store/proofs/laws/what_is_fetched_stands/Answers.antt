use Rattle.fluid_store.proofs.Fetched.{fetched_stands}
use Rattle.fluid_store.proofs.laws.what_is_fetched_stands.Goals as goal

pub returns : goal.returns
returns c held levels id node h = fetched_stands c.only_objects_are_read.ensures c.names_that_are_read_are_names.ensures held levels id node h
