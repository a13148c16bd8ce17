use Rattle.fluid_edits.proofs.Spelled.{other_forms_count_for_nothing}
use Rattle.fluid_edits.proofs.examples.other_forms_count_for_nothing.Goals as goal

pub returns : goal.returns
returns c = other_forms_count_for_nothing
