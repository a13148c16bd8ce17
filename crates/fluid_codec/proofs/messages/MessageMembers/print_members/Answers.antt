use Rattle.std.proofs.Common.{option_map}
use Rattle.fluid_json.specs.Tree.{text}
use Rattle.fluid_types.specs.Printed.{row_if_any}
use Rattle.fluid_types.specs.declared.fault.Field.TheVariants as field
use Rattle.fluid_codec.specs.Parts.{first_rows, last_rows}
use Rattle.fluid_codec.proofs.Objects.{four_parts, message_parts}
use Rattle.fluid_codec.proofs.messages.MessageMembers.print_members.Goals as goal

pub returns-clause-tokens : goal.returns-clause-tokens
returns-clause-tokens c =
    let m = c.args.self.now in
    rw (
      message_parts m,
      c.in_ok-print_last.ensures.tokens,
      c.in_ok-member_if_any-2.ensures.tokens,
      c.in_ok-member_if_any.ensures.tokens,
      c.in_ok-print_first.ensures.tokens,
    )
    (four_parts c.args.out.now.tokens (first_rows m) (row_if_any field.Data (option_map text m.system)) (row_if_any field.Metadata (option_map (λ t. t) m.metadata)) (last_rows m))
