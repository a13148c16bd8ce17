-- Worked examples: what is shown under some keys behind a few operations.
use Rattle.std.specs.Prelude.{◌≡◌, ℕ, true, pos, List, [], ◌∷◌, Some, None, codes}
use Rattle.std.specs.FinMap.{empty, get, insert}
use Rattle.fluid_json.specs.Tree.{null, boolean, whole}
use Rattle.fluid_map.specs.declared.operation.MapOp.{MapOp}
use Rattle.fluid_map.specs.declared.operation.MapOp.TheVariants.{Set, Delete, Clear}
use Rattle.fluid_map.specs.Replay.{Values, Shared, replay, shown}
use Rattle.fluid_map.specs.Content.{content}

abbrev pub a : List ℕ
a = codes "a"

abbrev pub b : List ℕ
b = codes "b"

-- a clear takes what was set before it, and not what is set behind it
abbrev pub around_a_clear : List MapOp
around_a_clear = Set a (whole (pos 1)) ∷ Set b (whole (pos 1)) ∷ Clear ∷ Set a null ∷ []

abbrev pub AroundClear : Type 0
AroundClear = (get (replay empty around_a_clear) a ≡ Some null) × (get (replay empty around_a_clear) b ≡ None)

abbrev pub only_b : Values
only_b = insert empty b null

-- to delete a key that has no value changes nothing
abbrev pub DeleteOfAbsentKey : Type 0
DeleteOfAbsentKey = (key : List ℕ) → get (replay only_b (Delete a ∷ [])) key ≡ get only_b key

-- the content has the keys in byte order, whichever was set first
abbrev pub ContentInOrder : Type 0
ContentInOrder = content (replay empty (Set b (boolean true) ∷ Set a null ∷ [])) ≡ codes "{\"a\":null,\"b\":true}"

-- a client that has a clear and then a set of a on their way, while another's set of b is acknowledged
abbrev pub masked : Shared
masked = record { acknowledged = replay empty (Set b (whole (pos 5)) ∷ []); pending = Clear ∷ Set a (whole (pos 4)) ∷ [] }

-- what it shows: the set of b is masked by the clear
abbrev pub PendingClear : Type 0
PendingClear = (shown masked a ≡ Some (whole (pos 4))) × (shown masked b ≡ None)
