-- The bytes of an object are read as that object.
use Rattle.std.proofs.Common.{◌≡◌, ℕ, zero, suc, ◌+◌, ◌-◌, ◌^◌, ◌<◌, ◌≤◌, ◌==◌, ◌||◌, ◌&&◌, nat_lt, not, List, [], ◌∷◌, ◌++◌, length, get_or, take, drop, flat_map, Bool, true, false, cond, Option, Some, Result, Ok, Err, decimal, refl, sym, ap, ◌∙◌, arith, append_assoc, append-nil, length-append, lt-ltb, ne_eqb}
use Rattle.std.specs.Prelude.{codes}
use Rattle.std.specs.Char.{is_ascii_digit, digit_value}
use Rattle.std.specs.List.{position_or_len, list_any}
use Rattle.std.specs.Str.{IsUtf8}
use Rattle.std.specs.Str.Parse.{AllDigits}
use Rattle.std.proofs.lemmas.Bool.{and_parts, or_parts, lt-leb, le-leb, and_from}
use Rattle.std.proofs.lemmas.Fmt.{decimal_is_IsNumeral, decimal_nonempty, first_decimal, decimal_digit, digits_value-decimal}
use Rattle.std.proofs.lemmas.Str.{is_utf8-from_IsUtf8}
use Rattle.std.proofs.lemmas.Str.Parse.{digit_from_value}
use Rattle.std.proofs.Math.Seq.{drop-append_seam, drop-append-add, take-append_seam}
use Rattle.fluid_tree.specs.Identity.{◌>>=◌}
use Rattle.fluid_tree.specs.Laws.{AreWhole, IsWhole}
use Rattle.fluid_tree.specs.Names.{is_bad}
use Rattle.fluid_tree.specs.Object.{entry_bytes, in_order, with_header, tree_bytes, object_bytes}
use Rattle.fluid_tree.specs.Reading.{common, word_of, digits_len, decimal_value, length_of, ends_at, named_at, entry_at, fits_behind, entry_or, entries_of, content_of, object_read}
use Rattle.fluid_tree.specs.declared.object.Object.{Object}
use Rattle.fluid_tree.specs.declared.object.Object.TheVariants.{Blob, Tree}
use Rattle.fluid_tree.specs.declared.object.ObjectEntry.{ObjectEntry}
use Rattle.fluid_tree.specs.declared.fault.TreeFault.{TreeFault}
use Rattle.fluid_tree.specs.declared.fault.TreeFault.TheVariants.{BadObject}
use Rattle.fluid_tree.proofs.Rest.{reads, entry_long}
use Rattle.fluid_tree.proofs.Sound.{word, model, entries_are}

-- ---- the word

word_read : (b : Bool) (t : List ℕ) → word_of (word b ++ t) ≡ Ok b
unfolding word_of common
word_read false t = refl
word_read true t = refl

behind_word : (b : Bool) (t : List ℕ) → drop 5 (word b ++ t) ≡ t
behind_word false t = refl
behind_word true t = refl

word_length : (b : Bool) (t : List ℕ) → length (word b ++ t) ≡ 5 + length t
word_length false t = omega arith
word_length true t = omega arith

-- ---- the length

is_digit : (c : ℕ) → digit_value c < 10 → is_ascii_digit c ≡ true
is_digit c h = let k = digit_from_value c h in and_from _ _ (le-leb 48 c k.0) (le-leb c 57 k.1)

digits_end : (ds rest : List ℕ) → AllDigits 10 ds → digits_len (ds ++ 0 ∷ rest) ≡ length ds
digits_end [] rest h = refl
digits_end (d ∷ ds) rest h = rw (is_digit d h.0, digits_end ds rest h.1) (omega arith)

lead_or : (n : ℕ) → n < 2 ^ 64 → (get_or (decimal n) 0 0 == 48 && nat_lt 1 (length (decimal n))) ≡ false
lead_or zero h = rw (decimal_digit 0 (omega arith)) refl
lead_or (suc n) h = rw (ne_eqb (get_or (decimal (suc n)) 0 0) 48 (λ e. omega (arith, first_decimal (suc n) (omega arith) h))) refl

first_of : (ds rest : List ℕ) → 0 < length ds → get_or (ds ++ rest) 0 0 ≡ get_or ds 0 0
first_of [] rest h = absurd (omega arith)
first_of (d ∷ ds) rest h = refl

behind_digits : (ds rest : List ℕ) → get_or (ds ++ 0 ∷ rest) (length ds) 0 ≡ 0
behind_digits [] rest = refl
behind_digits (d ∷ ds) rest = behind_digits ds rest

length_by : (k n : ℕ) (s : List ℕ) (e f g h : TreeFault) → digits_len s ≡ k → 0 < k → (get_or s 0 0 == 48 && nat_lt 1 k) ≡ false → decimal_value (take k s) ≡ n → n < 2 ^ 53 → k < length s → get_or s k 0 ≡ 0
    → cond (digits_len s == 0) (Err e) (cond (get_or s 0 0 == 48 && nat_lt 1 (digits_len s)) (Err f) (cond (nat_lt (2 ^ 53 - 1) (decimal_value (take (digits_len s) s))) (Err g)
    (cond (nat_lt (digits_len s) (length s) && get_or s (digits_len s) 0 == 0) (Ok (decimal_value (take (digits_len s) s))) (Err h)))) ≡ Ok n
length_by k n s e f g h is some lead value small within zero_is =
    rw (is, ne_eqb k 0 (λ z. omega arith), lead, value, lt-leb (suc (2 ^ 53 - 1)) n (omega arith), lt-ltb k (length s) within, zero_is) refl

length_read : (n : ℕ) (rest : List ℕ) → n < 2 ^ 53 → length_of 5 (decimal n ++ 0 ∷ rest) ≡ Ok n
unfolding length_of
length_read n rest small =
    let ds = decimal n in
    let s = ds ++ 0 ∷ rest in
    let wide : n < 2 ^ 64 = omega arith in
    let digits = (decimal_is_IsNumeral n wide).0.1 in
    let some = decimal_nonempty n wide in
    let value : decimal_value (take (length ds) s) ≡ n = ap decimal_value (take-append_seam ds (0 ∷ rest)) ∙ digits_value-decimal model n wide in
    length_by (length ds) n s _ _ _ _ (digits_end ds rest digits) some (ap (λ c. c == 48 && nat_lt 1 (length ds)) (first_of ds (0 ∷ rest) some) ∙ lead_or n wide) value small
    (omega (arith, length-append ds (0 ∷ rest))) (behind_digits ds rest)

-- ---- an entry

no_zero : (name rest : List ℕ) → list_any (λ x. x == 47 || x == 0) name ≡ false → position_or_len (λ x. x == 0) (name ++ 0 ∷ rest) ≡ length name
no_zero [] rest h = refl
no_zero (x ∷ xs) rest h =
    let both = or_parts (x == 47 || x == 0) _ h in
    let one = or_parts (x == 47) (x == 0) both.0 in
    rw (one.1, no_zero xs rest both.1) (omega arith)

named_read : (tree : Bool) (name id more : List ℕ) → list_any (λ x. x == 47 || x == 0) name ≡ false → IsUtf8 name → length id ≡ 20
    → named_at tree (position_or_len (λ x. x == 0) (name ++ (0 ∷ (id ++ more)))) (name ++ (0 ∷ (id ++ more))) ≡ Some (record { name = name; tree = tree; id = id })
named_read b name id more good utf8 size =
    let s = name ++ (0 ∷ (id ++ more)) in
    let long : length name + 20 < length s = omega (arith, length-append name (0 ∷ (id ++ more)), length-append id more) in
    let behind : take 20 (drop (length name + 1) s) ≡ id = ap (take 20) (drop-append-add name (0 ∷ (id ++ more)) 1) ∙ ap (λ k. take k (id ++ more)) (sym size) ∙ take-append_seam id more in
    rw (no_zero name (id ++ more) good, lt-ltb (length name + 20) (length s) long, take-append_seam name (0 ∷ (id ++ more)), is_utf8-from_IsUtf8 name utf8, behind) refl

entry_prefix : (tree : Bool) (name id more : List ℕ) → list_any (λ x. x == 47 || x == 0) name ≡ false → IsUtf8 name → length id ≡ 20
    → entry_at (entry_bytes (record { name = name; tree = tree; id = id }) ++ more) ≡ Some (record { name = name; tree = tree; id = id })
unfolding entry_at entry_bytes common
entry_prefix true name id more good utf8 size =
    ap (λ t. named_at true (position_or_len (λ x. x == 0) t) t) (append_assoc name (0 ∷ id) more) ∙ named_read true name id more good utf8 size
entry_prefix false name id more good utf8 size =
    ap (λ t. named_at false (position_or_len (λ x. x == 0) t) t) (append_assoc name (0 ∷ id) more) ∙ named_read false name id more good utf8 size

not_true : (b : Bool) → not b ≡ true → b ≡ false
not_true true h = cc
not_true false h = refl

-- what stands behind has no say in whether an entry is read
entry_read : (before : List ObjectEntry) (e : ObjectEntry) (more : List ℕ) → fits_behind before e ≡ true → IsUtf8 e.name → length e.id ≡ 20 → entry_at (entry_bytes e ++ more) ≡ Some e
entry_read before e more fit utf8 size =
    let named = not_true _ (and_parts _ _ fit).0 in
    let good = (or_parts (is_bad e.name) _ named).0 in
    let a = or_parts _ _ good in
    entry_prefix e.tree e.name e.id more a.1 utf8 size

fit_goes : (f : List ObjectEntry → List ℕ → Result (List ObjectEntry) TreeFault) (place : ℕ) (before : List ObjectEntry) (e : ObjectEntry) (s : List ℕ) (o : Option ObjectEntry) → o ≡ Some e → fits_behind before e ≡ true
    → entry_or f place before s o ≡ f (before ++ e ∷ []) (drop (length (entry_bytes e)) s)
fit_goes f place before e s o is fit = ap (entry_or f place before s) is ∙ by_fit (fits_behind before e) fit
  where
    by_fit : (c : Bool) → c ≡ true → cond c (f (before ++ e ∷ []) (drop (length (entry_bytes e)) s)) (Err (BadObject place)) ≡ f (before ++ e ∷ []) (drop (length (entry_bytes e)) s)
    by_fit c h = rw h refl

entries_end : (total n : ℕ) (before : List ObjectEntry) → entries_of total n before [] ≡ Ok before
unfolding entries_of
entries_end total zero before = refl
entries_end total (suc n) before = refl

entries_read : (total turns : ℕ) (before more : List ObjectEntry) → AreWhole before more → length (flat_map entry_bytes more) ≤ turns → entries_of total turns before (flat_map entry_bytes more) ≡ Ok (before ++ more)
entries_read total turns before [] whole enough = entries_end total turns before ∙ ap Ok (sym (append-nil before))
entries_read total turns before (e ∷ es) whole enough =
    let rest = flat_map entry_bytes es in
    let s = entry_bytes e ++ rest in
    let size = length-append (entry_bytes e) rest in
    let long = entry_long e in
    let next = reads total turns before s (omega arith) enough in
    let goes = fit_goes (entries_of total next.0) (total - length s) before e s (entry_at s) (entry_read before e rest whole.0 whole.1.0.0 whole.1.0.1) whole.0 in
    next.1.1 ∙ goes ∙ ap (entries_of total next.0 (before ++ e ∷ [])) (drop-append_seam (entry_bytes e) rest)
    ∙ entries_read total next.0 (before ++ e ∷ []) es whole.1.1 (omega (arith, next.1.0)) ∙ ap Ok (append_assoc before (e ∷ []) es)

-- ---- the object

ends_read : (total place n : ℕ) → place + n ≡ total → ends_at total place n ≡ Ok tt
unfolding ends_at
ends_read total place n h = rw (h, lt-leb (suc total) total (omega arith)) refl

word_five : (b : Bool) → length (word b) ≡ 5
word_five false = refl
word_five true = refl

goes : {A B : Type 0} (r : Result A TreeFault) (f : A → Result B TreeFault) (a : A) → r ≡ Ok a → (r >>= f) ≡ f a
goes r f a h = ap (λ x. x >>= f) h

body_behind : (b : Bool) (ds body : List ℕ) (k : ℕ) → k ≡ length ds → drop (k + 6) (word b ++ (ds ++ (0 ∷ body))) ≡ body
body_behind b ds body k is =
    let far : k + 6 ≡ length (word b) + (length ds + 1) = omega (arith, is, word_five b) in
    ap (λ i. drop i (word b ++ (ds ++ (0 ∷ body)))) far ∙ drop-append-add (word b) (ds ++ (0 ∷ body)) (length ds + 1) ∙ drop-append-add ds (0 ∷ body) 1

rows : (b : Bool) (body : List ℕ) (o : Object) → length body < 2 ^ 53 → content_of b (length (word b ++ (decimal (length body) ++ (0 ∷ body)))) body ≡ Ok o → object_read (word b ++ (decimal (length body) ++ (0 ∷ body))) ≡ Ok o
unfolding object_read
rows b body o small content =
    let n = length body in
    let ds = decimal n in
    let t = ds ++ (0 ∷ body) in
    let s = word b ++ t in
    let k = digits_len (drop 5 s) in
    let wide : n < 2 ^ 64 = omega arith in
    let end : k ≡ length ds = ap digits_len (behind_word b t) ∙ digits_end ds body (decimal_is_IsNumeral n wide).0.1 in
    let all : (k + 6) + n ≡ length s = omega (arith, end, word_length b t, length-append ds (0 ∷ body)) in
    goes (word_of s) _ b (word_read b t)
    ∙ goes (length_of 5 (drop 5 s)) _ n (ap (length_of 5) (behind_word b t) ∙ length_read n body small)
    ∙ goes (ends_at (length s) (k + 6) n) _ tt (ends_read (length s) (k + 6) n all)
    ∙ ap (content_of b (length s)) (body_behind b ds body k end) ∙ content

pub object_read_back : (o : Object) → IsWhole o → object_read (object_bytes o) ≡ Ok o
unfolding object_bytes with_header tree_bytes content_of
object_read_back (Blob content) small = rows false content (Blob content) small refl
object_read_back (Tree es) whole =
    let body = flat_map entry_bytes es in
    let read : (total : ℕ) → entries_of total (length body) [] body ≡ Ok es = λ total. entries_read total (length body) [] es whole.0 (omega arith) in
    let order : in_order es ≡ es = (entries_are 0 (length body) [] body es tt refl (read 0)).1.1.1 in
    ap (λ l. object_read (with_header (codes "tree") (flat_map entry_bytes l))) order ∙ rows true body (Tree es) whole.1 (ap (λ r. r >>= λ xs. Ok (Tree xs)) (read _))
