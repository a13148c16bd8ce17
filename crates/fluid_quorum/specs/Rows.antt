-- The tokens of members and items.
use Rattle.std.specs.Prelude.{List, [], ◌∷◌, ◌++◌, Option, Some, None}
use Rattle.json.specs.Token.{Token, key}
use Rattle.fluid_json.specs.Tokens.{tokens_of}
use Rattle.fluid_json.specs.Tree.{Tree}
use Rattle.fluid_types.specs.Printed.{Row}

-- a member is its name and then its value
unfoldable pub row_tokens : Row → List Token
row_tokens r = key r.0 ∷ tokens_of r.1

-- members one after another
abbrev pub rows_tokens : List Row → List Token
rows_tokens [] = []
rows_tokens (r ∷ rs) = row_tokens r ++ rows_tokens rs

-- a place that has no value yet isn't printed
abbrev pub place_tokens : {V : Type 0} → (V → Tree) → Option V → List Token
place_tokens tree_of None = []
place_tokens tree_of (Some v) = tokens_of (tree_of v)
