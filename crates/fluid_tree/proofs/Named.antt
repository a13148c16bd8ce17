-- The names of the entries that were read.
use Rattle.std.proofs.Common.{◌≡◌, ℕ, zero, suc, ◌-◌, List, [], ◌∷◌, ◌++◌, length, map, drop, Bool, true, false, ◌||◌, not, None, Result, Ok, refl, sym, ap, ◌∙◌, append_assoc, append-nil}
use Rattle.std.specs.List.{list_any}
use Rattle.std.specs.Str.{bytes_eq}
use Rattle.std.proofs.lemmas.Bool.{and_parts}
use Rattle.std.proofs.lemmas.List.{map-append}
use Rattle.fluid_tree.specs.Names.{is_bad, is_refused, first_refused}
use Rattle.fluid_tree.specs.Object.{entry_bytes}
use Rattle.fluid_tree.specs.Reading.{word_of, length_of, ends_at, entry_at, fits_behind, entries_of, content_of, object_read}
use Rattle.fluid_tree.specs.declared.object.Object.TheVariants.{Tree}
use Rattle.fluid_tree.specs.declared.object.ObjectEntry.{ObjectEntry}
use Rattle.fluid_tree.specs.declared.fault.TreeFault.{TreeFault}
use Rattle.fluid_tree.proofs.Admitted.{goes_on, none_left}
use Rattle.fluid_tree.proofs.Rest.{any_last}
use Rattle.fluid_tree.proofs.Sound.{bind_ok, entry_by}

abbrev names_of : List ObjectEntry → List (List ℕ)
names_of = map (λ e. e.name)

-- these names are those of the entries, in whatever order
abbrev AreThose : List (List ℕ) → List ObjectEntry → Type 0
AreThose seen before = (name : List ℕ) → list_any (λ one. bytes_eq one name) seen ≡ list_any (λ one. bytes_eq one name) (names_of before)

one_more : (seen : List (List ℕ)) (before : List ObjectEntry) (e : ObjectEntry) → AreThose seen before → AreThose (e.name ∷ seen) (before ++ e ∷ [])
one_more seen before e h name =
    ap (λ b. bytes_eq e.name name || b) (h name)
    ∙ sym (ap (list_any (λ one. bytes_eq one name)) (map-append (λ (f : ObjectEntry). f.name) before (e ∷ [])) ∙ any_last (λ one. bytes_eq one name) (names_of before) e.name)

turned : (b : Bool) → not b ≡ true → b ≡ false
turned true h = cc
turned false h = refl

admitted : (seen : List (List ℕ)) (before : List ObjectEntry) (e : ObjectEntry) → AreThose seen before → fits_behind before e ≡ true → is_refused seen e.name ≡ false
admitted seen before e h fit = ap (λ b. is_bad e.name || b) (h e.name) ∙ turned (is_refused (names_of before) e.name) (and_parts _ _ fit).0

abbrev Named : List (List ℕ) → List ObjectEntry → List ObjectEntry → Type 0
Named seen before es = (more : List ObjectEntry) × ((es ≡ before ++ more) × (first_refused seen (names_of more) ≡ None))

abbrev read_as : List ObjectEntry → Result (List ObjectEntry) TreeFault
read_as es = Ok es

nothing_more : (seen : List (List ℕ)) (before es : List ObjectEntry) → read_as before ≡ read_as es → Named seen before es
nothing_more seen before es same = let is : before ≡ es = cc in ([], (sym is ∙ sym (append-nil before), none_left seen))

named : (total n : ℕ) (seen : List (List ℕ)) (before : List ObjectEntry) (rest : List ℕ) (es : List ObjectEntry) → AreThose seen before → entries_of total n before rest ≡ Ok es → Named seen before es
unfolding entries_of
named total zero seen before [] es those h = nothing_more seen before es h
named total (suc n) seen before [] es those h = nothing_more seen before es h
named total zero seen before (x ∷ xs) es those h = cc
named total (suc n) seen before (x ∷ xs) es those h =
    let s = x ∷ xs in
    let by = entry_by (entries_of total n) (total - length s) before s (entry_at s) es h in
    let e = by.0 in
    let more = named total n (e.name ∷ seen) (before ++ e ∷ []) (drop (length (entry_bytes e)) s) es (one_more seen before e those) by.1.1.1 in (
      e ∷ more.0,
      (more.1.0 ∙ append_assoc before (e ∷ []) more.0, goes_on seen e.name (names_of more.0) (admitted seen before e those by.1.1.0) ∙ more.1.1),
    )

content_named : (tree : Bool) (total : ℕ) (body : List ℕ) (entries : List ObjectEntry) → content_of tree total body ≡ Ok (Tree entries) → first_refused [] (names_of entries) ≡ None
unfolding content_of
content_named false total body entries h = cc
content_named true total body entries h =
    let by = bind_ok (entries_of total (length body) [] body) (λ es. Ok (Tree es)) (Tree entries) h in
    let is : by.0 ≡ entries = let k = by.1.1 in cc in
    let read = named total (length body) [] [] body by.0 (λ name. refl) by.1.0 in
    ap (λ es. first_refused [] (names_of es)) (sym is ∙ read.1.0) ∙ read.1.1

pub names_read : (s : List ℕ) (entries : List ObjectEntry) → object_read s ≡ Ok (Tree entries) → first_refused [] (names_of entries) ≡ None
unfolding object_read
names_read s entries h =
    let a = bind_ok (word_of s) _ (Tree entries) h in
    let b = bind_ok (length_of 5 (drop 5 s)) _ (Tree entries) a.1.1 in
    let c = bind_ok (ends_at (length s) _ b.0) _ (Tree entries) b.1.1 in
    content_named a.0 (length s) _ entries c.1.1
