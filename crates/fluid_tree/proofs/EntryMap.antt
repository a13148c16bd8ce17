-- A map from keys to bytes beside the entries in order.
use Rattle.std.proofs.Common.{◌≡◌, ℕ, List, [], ◌∷◌, ◌++◌, flat_map, String, Global, Vec, Ordering, Less, Equal, Greater, string_bytes, string_cmp, nat_cmp, is_eq, refl, sym, ap, ap₂, ◌∙◌, subst}
use Rattle.std.proofs.lemmas.Map.Text.{is_eq-slice_cmp}
use Rattle.std.proofs.lemmas.Slice.Eq.{bytes_eq-Decides}
use Rattle.std.specs.BTreeMap.{insert_entry}
use Rattle.std.specs.Cmp.Lexicographic.{slice_cmp}
use Rattle.std.specs.Ordering.{match_ordering}
use Rattle.fluid_tree.specs.Object.{entry_bytes, sort_key, placed}
use Rattle.fluid_tree.specs.Sorted.{Stands}
use Rattle.fluid_tree.specs.declared.object.ObjectEntry.{ObjectEntry}

abbrev Held : Type 0
Held = String Global × Vec ℕ Global

stands_by : (o : Ordering) (a b c : List Held) (x y z : List ObjectEntry) → Stands a x → (o ≡ Equal → Stands b y) → Stands c z → Stands (match_ordering o a b c) (match_ordering o x y z)
stands_by Less a b c x y z p q r = p
stands_by Equal a b c x y z p q r = q refl
stands_by Greater a b c x y z p q r = r

same_key : (xs ys : List ℕ) → slice_cmp nat_cmp xs ys ≡ Equal → xs ≡ ys
same_key xs ys h = (bytes_eq-Decides xs ys).0 (sym (is_eq-slice_cmp xs ys) ∙ ap is_eq h)

pub put_in_order : (ms : List Held) (es : List ObjectEntry) (k : String Global) (v : Vec ℕ Global) (e : ObjectEntry)
    → string_bytes k ≡ sort_key e.tree e.name → v.items ≡ entry_bytes e → Stands ms es → Stands (insert_entry string_cmp ms k v) (placed e es)
put_in_order [] [] k v e key bytes h = (key, (bytes, tt))
put_in_order [] (f ∷ fs) k v e key bytes h = absurd h
put_in_order (m ∷ ms) [] k v e key bytes h = absurd h
put_in_order (m ∷ ms) (f ∷ fs) k v e key bytes h =
    let same : string_cmp k m.0 ≡ slice_cmp nat_cmp (sort_key e.tree e.name) (sort_key f.tree f.name) = ap₂ (slice_cmp nat_cmp) key h.0 in
    subst (λ o. Stands (insert_entry string_cmp (m ∷ ms) k v) (match_ordering o (e ∷ f ∷ fs) (e ∷ fs) (f ∷ placed e fs))) same
    (stands_by (string_cmp k m.0) ((k, v) ∷ m ∷ ms) ((m.0, v) ∷ ms) (m ∷ insert_entry string_cmp ms k v) (e ∷ f ∷ fs) (e ∷ fs) (f ∷ placed e fs)
    (key, (bytes, h))
    (λ equal. (sym (same_key (string_bytes k) (string_bytes m.0) equal) ∙ key, (bytes, h.1.1)))
    (h.0, (h.1.0, put_in_order ms fs k v e key bytes h.1.1)))

pub bytes_in_order : (ms : List Held) (es : List ObjectEntry) → Stands ms es → flat_map (λ m. m.1.items) ms ≡ flat_map entry_bytes es
bytes_in_order [] [] h = refl
bytes_in_order [] (e ∷ es) h = absurd h
bytes_in_order (m ∷ ms) [] h = absurd h
bytes_in_order (m ∷ ms) (e ∷ es) h = ap₂ (λ xs ys. xs ++ ys) h.1.0 (bytes_in_order ms es h.1.1)
