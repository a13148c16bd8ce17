use Rattle.std.proofs.Common.{[], ◌∙◌}
use Rattle.fluid_types.specs.Printed.{row, count_tree}
use Rattle.fluid_types.specs.Blobs.{attributes_tree}
use Rattle.fluid_types.specs.declared.fault.Field.TheVariants as field
use Rattle.fluid_quorum.proofs.Objects.{object_of_two}
use Rattle.fluid_quorum.proofs.writing.print_attributes.Goals as goal

pub returns : goal.returns
returns c =
    c.into_text.ensures (attributes_tree c.args.minimum c.args.number)
    (c.in_ok-end_object.ensures.tokens
    ∙ rw (c.in_ok-put_count-2.ensures.tokens, c.in_ok-put_count.ensures.tokens, c.in_ok-begin_object.ensures.tokens, c.new-out.ensures.tokens)
    (object_of_two [] (row field.MinimumSequenceNumber (count_tree c.args.minimum)) (row field.SequenceNumber (count_tree c.args.number))))
