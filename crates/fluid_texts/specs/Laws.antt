-- What holds of values whose keys and texts are UTF-8.
use Rattle.std.specs.Prelude.{◌≡◌, ℕ, List, Ok, IsUtf8}
use Rattle.fluid_json.specs.Tree.{Tree, IsCanonical}
use Rattle.fluid_json.specs.Printed.{printed}
use Rattle.fluid_json.specs.Spelled.{answer}
use Rattle.fluid_texts.specs.Texts.{IsText, IsWritable}

-- what a text in UTF-8 spells is such a value
abbrev pub TextsAreRead : Type 0
TextsAreRead = (s : List ℕ) (t : Tree) → IsUtf8 s → answer s ≡ Ok t → IsText t

-- where its numbers have 64 bits too, what is printed of it is UTF-8
abbrev pub TextsArePrinted : Type 0
TextsArePrinted = (t : Tree) → IsWritable t → IsUtf8 (printed t)

-- as they have in every value as it is kept
abbrev pub TextsAreWritable : Type 0
TextsAreWritable = (t : Tree) → IsCanonical t → IsText t → IsWritable t
