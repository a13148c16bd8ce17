use Rattle.fluid_document.proofs.Reloading.{loaded-first, loaded-any}
use Rattle.fluid_document.proofs.laws.kept_is_loaded.Goals as goal

pub returns-clause-first : goal.returns-clause-first
returns-clause-first c = loaded-first

pub returns-clause-checkpoints : goal.returns-clause-checkpoints
returns-clause-checkpoints c = loaded-any c.blobs_of_messages_are_read_back.ensures
