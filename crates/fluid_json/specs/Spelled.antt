-- Which value a text spells, and which fault it has.
use Rattle.std.specs.Prelude.{ℕ, suc, ◌-◌, ◌==◌, ◌||◌, nat_le, List, [], ◌∷◌, Bool, false, Option, Some, None, option_map, option_and_then, Result, Ok, Err, if◌then◌else◌}
use Rattle.serde_json.specs.Data as serde
use Rattle.serde_json.specs.Find.{as_i64}
use Rattle.serde_json.specs.Read.{read}
use Rattle.fluid_json.specs.Tree.{Tree, null, boolean, whole, text, list, object, Trees, no_trees, tree, Members, no_members, member}
use Rattle.fluid_json.specs.declared.fault.JsonFault.{JsonFault}
use Rattle.fluid_json.specs.declared.fault.JsonFault.TheVariants.{NotJson, NotWhole, TooDeep}
use Rattle.fluid_json.specs.declared.nesting.Place.{Place}
use Rattle.fluid_json.specs.declared.nesting.Place.TheVariants.{Outside, Inside, Escaped}

-- ---- what was read, where each number is a whole number of 64 bits written without fraction or exponent and not as -0

abbrev mutual
  pub of_data : serde.Data → Option Tree
  of_data serde.null = Some null
  of_data (serde.boolean b) = Some (boolean b)
  of_data (serde.number n) = option_map whole (as_i64 n)
  of_data (serde.string s) = Some (text s)
  of_data (serde.array ds) = option_map list (of_items ds)
  of_data (serde.object ms) = option_map object (of_members ms)

  pub of_items : serde.Items → Option Trees
  of_items serde.no_items = Some no_trees
  of_items (serde.item d ds) = option_and_then (λ t. option_map (tree t) (of_items ds)) (of_data d)

  pub of_members : serde.Members → Option Members
  of_members serde.no_members = Some no_members
  of_members (serde.member k d ms) = option_and_then (λ t. option_map (member k t) (of_members ms)) (of_data d)

-- ---- the depth of a text: how many brackets are open at a place, those inside strings left out

-- a quotation mark enters a string and leaves it; a backslash in a string passes over what comes next
abbrev pub place_after : Place → ℕ → Place
place_after Outside x = if x == 34 then Inside else Outside
place_after Inside x = if x == 34 then Outside else (if x == 92 then Escaped else Inside)
place_after Escaped x = Inside

abbrev pub is_opening : ℕ → Bool
is_opening x = x == 91 || x == 123

abbrev pub is_closing : ℕ → Bool
is_closing x = x == 93 || x == 125

abbrev pub depth_after : Place → ℕ → ℕ → ℕ
depth_after Outside depth x = if is_opening x then suc depth else (if is_closing x then depth - 1 else depth)
depth_after Inside depth x = depth
depth_after Escaped depth x = depth

-- whether the depth reaches `top` somewhere in what is left of the text
unfoldable pub reaches : ℕ → Place → ℕ → List ℕ → Bool
reaches top place depth [] = false
reaches top place depth (x ∷ xs) =
    nat_le top (depth_after place depth x) || reaches top (place_after place x) (depth_after place depth x) xs

-- ---- the answer: too deep, then not JSON, then not whole

abbrev pub whole_or : Option Tree → Result Tree JsonFault
whole_or None = Err NotWhole
whole_or (Some t) = Ok t

abbrev pub json_or : Option serde.Data → Result Tree JsonFault
json_or None = Err NotJson
json_or (Some d) = whole_or (of_data d)

-- too deep is a text whose depth reaches `top`
unfoldable pub answer_within : ℕ → List ℕ → Result Tree JsonFault
answer_within top s = if reaches top Outside 0 s then Err TooDeep else json_or (read s)

-- of a text from outside: at most 100 deep
abbrev pub answer : List ℕ → Result Tree JsonFault
answer = answer_within 101

-- of a text that was printed here and stored: at most 120 deep
abbrev pub answer_stored : List ℕ → Result Tree JsonFault
answer_stored = answer_within 121
