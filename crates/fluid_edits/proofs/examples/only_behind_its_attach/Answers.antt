use Rattle.fluid_edits.proofs.Spelled.{only_behind_its_attach}
use Rattle.fluid_edits.proofs.examples.only_behind_its_attach.Goals as goal

pub returns : goal.returns
returns c = only_behind_its_attach
