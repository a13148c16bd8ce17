-- The entries of a table, one after another.
use Rattle.std.proofs.Common.{◌≡◌, ℕ, zero, suc, ◌<◌, arith, false, List, [], ◌∷◌, ◌++◌, Some, option_map, length, take, get_or, refl, ap, subst, ◌∙◌}
use Rattle.std.specs.Prelude.{slice_get}
use Rattle.std.specs.FinMap.{entries, entries_sorted, get, get-entries, keys, len, len-entries}
use Rattle.std.proofs.lemmas.Option.{slice_get-map, slice_get-get_or, same_Some}
use Rattle.fluid_table.proofs.Ordered.{find_at}
use Rattle.fluid_table.proofs.Places.{byte_order_total}
use Rattle.fluid_clients.specs.declared.table.Row.{Row}
use Rattle.fluid_clients.specs.Table.{Rows}

-- the entry at a place: its key is that at this place, and its value that of the key
pub record IsEntry (rows : Rows) (place : ℕ) (entry : List ℕ × Row) : Type 0 where
  pub is : slice_get (entries rows) place ≡ Some entry
  pub key : slice_get (keys rows) place ≡ Some entry.0
  pub row : get rows entry.0 ≡ Some entry.1

abbrev nothing : List ℕ × Row
nothing = ([], record { last = 0; reference = 0; nacked = false; scopes = record { read = false; write = false; summary = false }; heard = 0 })

pub entry_at : (rows : Rows) (place : ℕ) → place < len rows → IsEntry rows place (get_or (entries rows) place nothing)
entry_at rows place lt =
    let below : place < length (entries rows) = subst (λ n. place < n) (len-entries rows) lt in
    let there = slice_get-get_or (entries rows) place nothing below in
    record {
      is = there;
      key = slice_get-map (λ e. e.0) (entries rows) place ∙ ap (option_map (λ e. e.0)) there;
      row = get-entries rows _ ∙ find_at byte_order_total _ (entries rows) place nothing (entries_sorted rows) below refl;
    }

-- ---- lists that are gone through

pub take_more : {X : Type 0} (xs : List X) (i : ℕ) (x : X) → slice_get xs i ≡ Some x → take i xs ++ x ∷ [] ≡ take (suc i) xs
take_more [] i x is = absurd (cc)
take_more (y ∷ ys) zero x is = let same : y ≡ x = same_Some y x is in rw same refl
take_more (y ∷ ys) (suc i) x is = ap (λ rest. y ∷ rest) (take_more ys i x is)

pub nothing_left : {X : Type 0} (xs : List X) → length xs ≡ 0 → xs ≡ []
nothing_left [] none = refl
nothing_left (x ∷ xs) none = absurd (omega (arith, none))
