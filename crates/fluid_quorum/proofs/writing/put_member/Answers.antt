use Rattle.std.proofs.Common.{◌∙◌}
use Rattle.fluid_json.specs.Tree.{text}
use Rattle.fluid_types.specs.Printed.{row, count_tree}
use Rattle.fluid_types.specs.declared.fault.Field.TheVariants as field
use Rattle.fluid_quorum.proofs.Objects.{object_of_three}
use Rattle.fluid_quorum.proofs.writing.put_member.Goals as goal

pub returns-clause-tokens : goal.returns-clause-tokens
returns-clause-tokens c =
    c.in_ok-end_object.ensures.tokens
    ∙ rw (c.in_ok-put_count.ensures.tokens, c.in_ok-put_json.ensures.tokens, c.in_ok-put_text.ensures.tokens, c.in_ok-begin_object.ensures.tokens, c.as_str.ensures.bytes)
    (object_of_three c.args.out.now.tokens (row field.ClientId (text c.args.member.now.id)) (row field.Detail c.args.member.now.detail) (row field.SequenceNumber (count_tree c.args.member.now.number)))
