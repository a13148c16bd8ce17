use Rattle.fluid_document.proofs.InRange.{read_in_range}
use Rattle.fluid_document.proofs.loading.read_checkpoint.Goals as goal

pub returns-in-Ok-read-clause-in_range : goal.returns-in-Ok-read-clause-in_range
returns-in-Ok-read-clause-in_range g c = read_in_range _ _ c.in-Ok-read.ensures
