use Rattle.fluid_document.proofs.Reloading.{counted_as_printed}
use Rattle.fluid_document.proofs.laws.checkpoints_are_counted.Goals as goal

pub returns : goal.returns
returns c = counted_as_printed c.blobs_of_messages_are_read_back.ensures
