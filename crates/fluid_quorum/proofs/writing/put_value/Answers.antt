use Rattle.std.proofs.Common.{◌∙◌}
use Rattle.fluid_json.specs.Tree.{text}
use Rattle.fluid_types.specs.Printed.{row, count_tree}
use Rattle.fluid_types.specs.declared.fault.Field.TheVariants as field
use Rattle.fluid_quorum.proofs.Objects.{object_of_four}
use Rattle.fluid_quorum.proofs.writing.put_value.Goals as goal

pub returns-clause-tokens : goal.returns-clause-tokens
returns-clause-tokens c =
    c.in_ok-end_object.ensures.tokens
    ∙ rw (c.in_ok-put_json.ensures.tokens, c.in_ok-put_count-2.ensures.tokens, c.in_ok-put_text.ensures.tokens, c.in_ok-put_count.ensures.tokens, c.in_ok-begin_object.ensures.tokens)
    (object_of_four c.args.out.now.tokens (row field.ApprovalSequenceNumber (count_tree c.args.accepted.now.approval)) (row field.Key (text c.args.key.now))
    (row field.SequenceNumber (count_tree c.args.accepted.now.number)) (row field.Value c.args.accepted.now.value))
