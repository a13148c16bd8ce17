use Rattle.fluid_store.proofs.Stays.{one_blob}
use Rattle.fluid_store.proofs.laws.one_blob_is_complete.Goals as goal

pub returns : goal.returns
returns c = one_blob c.objects_are_read_back.ensures
