-- Values under texts. A text may have a place that has no value yet: the value can then be put there without memory.
use Rattle.std.specs.Prelude.{ℕ, List, [], ◌∷◌, Option, Some, None, All, IsSome, String, string_bytes, string_cmp}
use Rattle.std.specs.declared.alloc.Global.{Global}
use Rattle.std.specs.BTreeMap.{BTreeMap, IsOrdered, get_by_text}
use Rattle.std.specs.FinMap.{from_sorted}
use Rattle.fluid_types.specs.declared.quorum.Proposal.{Proposal}
use Rattle.fluid_types.specs.Quorum.{Table}

abbrev pub Places : Type 0 → Type 0
Places V = BTreeMap (String Global) (Option V)

-- a place that has no value says nothing
abbrev pub with_place : {V : Type 0} → List ℕ → Option V → List (List ℕ × V) → List (List ℕ × V)
with_place key None rest = rest
with_place key (Some v) rest = (key, v) ∷ rest

-- the keys that have a value, each with it
abbrev pub held : {V : Type 0} → List (String Global × Option V) → List (List ℕ × V)
held [] = []
held (e ∷ es) = with_place (string_bytes e.0) e.1 (held es)

abbrev pub table_at : {V : Type 0} → Places V → Table V
table_at places = from_sorted (held places.entries)

-- the places stand in the order of their keys
abbrev pub AreOrdered : {V : Type 0} → Places V → Type 0
AreOrdered places = IsOrdered string_cmp places

-- the key has a place
abbrev pub HasPlace : {V : Type 0} → Places V → List ℕ → Type 0
HasPlace places key = IsSome (get_by_text places key)

-- the key of each proposal has a place
abbrev pub HavePlaces : {V : Type 0} → Places V → List Proposal → Type 0
HavePlaces places proposals = All (λ p. HasPlace places p.key) proposals

-- where one has a place, the other has one
abbrev pub KeepsPlaces : {V : Type 0} → Places V → Places V → Type 0
KeepsPlaces old new = (key : List ℕ) → HasPlace old key → HasPlace new key
