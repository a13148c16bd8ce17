use Rattle.std.proofs.Common.{refl, ◌∙◌}
use Rattle.fluid_types.specs.Printed.{count_tree}
use Rattle.fluid_checkpoint.proofs.printing.count_text.Goals as goal

pub returns : goal.returns
returns c = c.into_text.ensures (count_tree c.args.number) (c.in_ok-count.ensures.tokens ∙ rw c.new-out.ensures.tokens refl)
