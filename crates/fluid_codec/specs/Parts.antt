-- The members of a message in parts, for private clauses: those before and behind the ones that may be missing.
use Rattle.std.specs.Prelude.{List, [], ◌∷◌}
use Rattle.fluid_json.specs.Tree.{whole, text}
use Rattle.fluid_types.specs.Printed.{Row, row, count_tree, or_null}
use Rattle.fluid_types.specs.Words.{kind_word}
use Rattle.fluid_types.specs.declared.fault.Field.TheVariants as field
use Rattle.fluid_types.specs.declared.messages.Message.{Message}

unfoldable pub first_rows : Message → List Row
first_rows m =
    row field.ClientId (or_null text m.client)
    ∷ row field.ClientSequenceNumber (whole m.client_number)
    ∷ row field.Contents m.contents
    ∷ []

unfoldable pub last_rows : Message → List Row
last_rows m =
    row field.MinimumSequenceNumber (count_tree m.minimum)
    ∷ row field.ReferenceSequenceNumber (whole m.reference)
    ∷ row field.SequenceNumber (count_tree m.number)
    ∷ row field.Timestamp (count_tree m.moment)
    ∷ row field.«Type» (text (kind_word m.kind))
    ∷ []
