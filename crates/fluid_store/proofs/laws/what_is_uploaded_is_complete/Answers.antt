use Rattle.fluid_store.proofs.Whole.{complete_under}
use Rattle.fluid_store.proofs.laws.what_is_uploaded_is_complete.Goals as goal

pub returns : goal.returns
returns c held node id h holds readable = complete_under c.objects_are_read_back.ensures held node id h holds readable
