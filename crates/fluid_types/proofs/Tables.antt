-- The table of pairs, each key with the value of its last pair: what is found in it, and how its entries stand.
use Rattle.std.proofs.Common.{◌≡◌, ℕ, List, [], ◌∷◌, reverse, refl, ap, sym, ◌∙◌, length, arith}
use Rattle.std.specs.Cmp.Lexicographic.{nat_list_cmp_total}
use Rattle.std.specs.FinMap.{empty, entries, get, from_entries, get-from_entries, entries-insert, len-entries, len-empty}
use Rattle.std.specs.FinMap.Entries.{put, find}
use Rattle.fluid_table.specs.Table.{byte_order}
use Rattle.fluid_types.specs.Quorum.{latest}

pub get-latest : {X : Type 0} (pairs : List (List ℕ × X)) (key : List ℕ) → get (latest pairs) key ≡ find byte_order key (reverse pairs)
unfolding latest
get-latest pairs key = get-from_entries nat_list_cmp_total (reverse pairs) key

none : {A : Type 0} (xs : List A) → length xs ≡ 0 → xs ≡ []
none [] is = refl
none (x ∷ xs) is = absurd (omega arith)

entries-empty : {X : Type 0} → entries (empty {X = X} {R = byte_order}) ≡ []
entries-empty {X} = none _ (sym (len-entries (empty {X = X} {R = byte_order})) ∙ len-empty byte_order X)

abbrev pub put_all : {X : Type 0} → List (List ℕ × X) → List (List ℕ × X)
put_all [] = []
put_all (e ∷ es) = put byte_order e.0 e.1 (put_all es)

entries-put_all : {X : Type 0} (es : List (List ℕ × X)) → entries (from_entries {R = byte_order} es) ≡ put_all es
entries-put_all [] = entries-empty
entries-put_all (e ∷ es) = entries-insert nat_list_cmp_total (from_entries es) e.0 e.1 ∙ ap (put byte_order e.0 e.1) (entries-put_all es)

pub entries-latest : {X : Type 0} (pairs : List (List ℕ × X)) → entries (latest pairs) ≡ put_all (reverse pairs)
unfolding latest
entries-latest pairs = entries-put_all (reverse pairs)
