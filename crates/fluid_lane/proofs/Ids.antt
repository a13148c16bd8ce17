-- The ids of two tables of clients, place by place.
use Rattle.std.proofs.Common.{◌≡◌, ℕ, ◌<◌, List, [], ◌∷◌, length, slice_get, Some, sym, ap, ◌∙◌, arith}
use Rattle.std.specs.List.{list_any}
use Rattle.std.specs.Ordering.{eq_by_cmp}
use Rattle.std.specs.FinMap.{keys, len, len-entries, entries, contains_key-keys}
use Rattle.std.proofs.lemmas.List.{length-map, same_lists}
use Rattle.std.proofs.lemmas.Option.{none-some, same_Some, slice_get-get_or}
use Rattle.std.proofs.lemmas.Bool.{false≢true}
use Rattle.fluid_clients.specs.Table.{Rows, byte_order}
use Rattle.fluid_lane.specs.Standing.{AreNamed}

pub length-keys : (rows : Rows) → length (keys rows) ≡ len rows
length-keys rows = length-map (entries rows) (λ e. e.0) ∙ sym (len-entries rows)

-- the ids by the first one
pub first_and_rest : (ids : List (List ℕ)) (id : List ℕ) → slice_get ids 0 ≡ Some id → (rest : List (List ℕ)) × (ids ≡ id ∷ rest)
first_and_rest [] id is = absurd (none-some _ is)
first_and_rest (x ∷ ids) id is = (ids, ap (λ y. y ∷ ids) (same_Some x id is))

-- the same ids are at each place before this one
abbrev pub AreSameUpTo : Rows → Rows → ℕ → Type 0
AreSameUpTo one other place = (i : ℕ) → i < place → slice_get (keys one) i ≡ slice_get (keys other) i

-- all places were looked at
pub all_same : (one other : Rows) (place : ℕ) → len one ≡ place → len other ≡ place → AreSameUpTo one other place → keys one ≡ keys other
all_same one other place a b each =
    let long = length-keys one ∙ a ∙ sym b ∙ sym (length-keys other) in
    same_lists (keys one) (keys other) long
    (λ i d lt. same_Some _ _ (sym (slice_get-get_or (keys one) i d lt) ∙ each i (omega (arith, lt, length-keys one, a)) ∙ slice_get-get_or (keys other) i d (omega (arith, lt, long))))

-- what names the ids of the one names those of the other
pub named_same : (n : ℕ) (one other : Rows) → keys one ≡ keys other → AreNamed n one → AreNamed n other
named_same n one other same named = λ id there.
    named id (contains_key-keys one id ∙ ap (list_any (eq_by_cmp byte_order id)) same ∙ sym (contains_key-keys other id) ∙ there)

-- nobody is joined
pub named_nobody : (n : ℕ) (rows : Rows) → keys rows ≡ [] → AreNamed n rows
named_nobody n rows none = λ id there. absurd (false≢true (sym (contains_key-keys rows id ∙ ap (list_any (eq_by_cmp byte_order id)) none) ∙ there))
