-- The tokens of members, for private clauses.
use Rattle.std.specs.Prelude.{ℕ, List, [], ◌∷◌, ◌++◌}
use Rattle.json.specs.Token.{Token, key}
use Rattle.fluid_json.specs.Tree.{Tree, text}
use Rattle.fluid_json.specs.Tokens.{tokens_of}
use Rattle.fluid_types.specs.Printed.{Row}

-- a member is its name and then its value
unfoldable pub row_tokens : Row → List Token
row_tokens r = key r.0 ∷ tokens_of r.1

-- members one after another
abbrev pub rows_tokens : List Row → List Token
rows_tokens [] = []
rows_tokens (r ∷ rs) = row_tokens r ++ rows_tokens rs

-- texts one after another
abbrev pub texts_tokens : List (List ℕ) → List Token
texts_tokens [] = []
texts_tokens (s ∷ ss) = tokens_of (text s) ++ texts_tokens ss

-- an item of a list
unfoldable pub item_tokens : Tree → List Token
item_tokens t = tokens_of t

-- items one after another
abbrev pub items_tokens : List Tree → List Token
items_tokens [] = []
items_tokens (t ∷ ts) = item_tokens t ++ items_tokens ts
