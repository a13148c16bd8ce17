use Rattle.fluid_edits.proofs.Spelled.{each_op_has_its_text}
use Rattle.fluid_edits.proofs.examples.each_op_has_its_text.Goals as goal

pub returns : goal.returns
returns c = each_op_has_its_text
