use Rattle.fluid_store.proofs.Resolving.{resolved_stands}
use Rattle.fluid_store.proofs.laws.what_is_resolved_stands.Goals as goal

pub returns : goal.returns
returns c = λ old new base earlier node part size is reads keeps holds. resolved_stands c.only_objects_are_read.ensures c.names_that_are_read_are_names.ensures old new base earlier node part size is reads keeps holds
