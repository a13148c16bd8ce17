-- Sizes: ids have 20 bytes, and what is read has fewer than 2^53.
use Rattle.std.proofs.Common.{◌≡◌, ℕ, zero, suc, ◌+◌, ◌-◌, ◌*◌, ◌^◌, ◌<◌, ◌≤◌, ◌==◌, ◌&&◌, nat_lt, List, [], ◌∷◌, ◌++◌, length, take, drop, Bool, true, false, cond, Option, Some, None, option_and_then, Result, Ok, Err, decimal, w32, refl, sym, ap, subst, ◌∙◌, arith, length-append, length-drop}
use Rattle.std.specs.Prelude.{codes, slice_index}
use Rattle.std.specs.Char.{is_ascii_digit}
use Rattle.std.specs.Int.{to_be_bytes}
use Rattle.std.specs.List.{AllByRecursion}
use Rattle.std.specs.Str.{is_utf8}
use Rattle.std.proofs.lemmas.Bool.{and_parts, ltb-true, ltb-false}
use Rattle.std.proofs.lemmas.List.{length-take-le}
use Rattle.sha1.specs.Sha1.{sha1, digest_bytes}
use Rattle.fluid_tree.specs.Identity.{◌>>=◌}
use Rattle.fluid_tree.specs.Object.{mode, entry_bytes, with_header}
use Rattle.fluid_tree.specs.Reading.{word_of, digits_len, decimal_value, length_of, ends_at, mode_at, named_at, entry_at, fits_behind, entry_or, entries_of, content_of, object_read}
use Rattle.fluid_tree.specs.declared.object.Object.{Object}
use Rattle.fluid_tree.specs.declared.object.Object.TheVariants.{Tree}
use Rattle.fluid_tree.specs.declared.object.ObjectEntry.{ObjectEntry}
use Rattle.fluid_tree.specs.declared.fault.TreeFault.{TreeFault}
use Rattle.fluid_tree.specs.declared.fault.TreeFault.TheVariants.{BadObject}

bind_ok : {A B : Type 0} (r : Result A TreeFault) (f : A → Result B TreeFault) (b : B) → (r >>= f) ≡ Ok b → (a : A) × ((r ≡ Ok a) × (f a ≡ Ok b))
bind_ok (Ok a) f b h = (a, (refl, h))
bind_ok (Err e) f b h = cc

-- ---- lists of which each element has a property

abbrev pub Each : (ObjectEntry → Type 0) → List ObjectEntry → Type 0
Each = AllByRecursion

pub each_last : (P : ObjectEntry → Type 0) (es : List ObjectEntry) (e : ObjectEntry) → Each P es → P e → Each P (es ++ e ∷ [])
each_last P [] e h p = (p, tt)
each_last P (f ∷ fs) e h p = (h.0, each_last P fs e h.1 p)

-- ---- ids

digits_size : (h : List ℕ) (n : ℕ) → length (digest_bytes h n) ≡ 4 * n
unfolding digest_bytes
digits_size h zero = refl
digits_size h (suc n) =
    let word : length (to_be_bytes w32 (slice_index h n)) ≡ 4 = refl in
    omega (arith, length-append (digest_bytes h n) (to_be_bytes w32 (slice_index h n)), word, digits_size h n)

pub id_size : (s : List ℕ) → length (sha1 s) ≡ 20
unfolding sha1
id_size s = digits_size _ 5

-- the id of an entry has 20 bytes
abbrev pub IsSized : ObjectEntry → Type 0
IsSized e = length e.id ≡ 20

named_sized : (tree : Bool) (end : ℕ) (s : List ℕ) (e : ObjectEntry) → named_at tree end s ≡ Some e → IsSized e
named_sized tree end s e h = by_test (nat_lt (end + 20) (length s) && is_utf8 (take end s)) refl h
  where
    by_test : (b : Bool) → (nat_lt (end + 20) (length s) && is_utf8 (take end s)) ≡ b → cond b (Some (record { name = take end s; tree = tree; id = take 20 (drop (end + 1) s) })) None ≡ Some e → IsSized e
    by_test true is k =
        let same : take 20 (drop (end + 1) s) ≡ e.id = cc in
        let long : end + 20 < length s = ltb-true (end + 20) (length s) (and_parts _ _ is).0 in
        sym (ap length same) ∙ length-take-le 20 (drop (end + 1) s) (omega (arith, length-drop (end + 1) s, long))
    by_test false is k = cc

by_mode : (f : Bool → Option ObjectEntry) (e : ObjectEntry) → ((b : Bool) → f b ≡ Some e → IsSized e) → (m : Option Bool) → option_and_then f m ≡ Some e → IsSized e
by_mode f e each None h = cc
by_mode f e each (Some b) h = each b h

entry_sized : (s : List ℕ) (e : ObjectEntry) → entry_at s ≡ Some e → IsSized e
unfolding entry_at
entry_sized s e h = by_mode _ e (λ b k. named_sized b _ (drop (length (mode b) + 1) s) e k) (mode_at s) h

fits_by : (c : Bool) (x y : Result (List ObjectEntry) TreeFault) (es : List ObjectEntry) → (y ≡ Ok es → ⊥) → cond c x y ≡ Ok es → x ≡ Ok es
fits_by true x y es never h = h
fits_by false x y es never h = absurd (never h)

entry_by : (f : List ObjectEntry → List ℕ → Result (List ObjectEntry) TreeFault) (place : ℕ) (before : List ObjectEntry) (s : List ℕ) (o : Option ObjectEntry) (es : List ObjectEntry)
    → entry_or f place before s o ≡ Ok es → (e : ObjectEntry) × ((o ≡ Some e) × (f (before ++ e ∷ []) (drop (length (entry_bytes e)) s) ≡ Ok es))
entry_by f place before s None es h = cc
entry_by f place before s (Some e) es h = (e, (refl, fits_by (fits_behind before e) (f (before ++ e ∷ []) (drop (length (entry_bytes e)) s)) (Err (BadObject place)) es (λ same. cc) h))

abbrev read_as : List ObjectEntry → Result (List ObjectEntry) TreeFault
read_as es = Ok es

nothing_more : (before es : List ObjectEntry) → read_as before ≡ read_as es → Each IsSized before → Each IsSized es
nothing_more before es same h = let is : before ≡ es = cc in subst (Each IsSized) is h

entries_sized : (total n : ℕ) (before : List ObjectEntry) (rest : List ℕ) (es : List ObjectEntry) → Each IsSized before → entries_of total n before rest ≡ Ok es → Each IsSized es
unfolding entries_of
entries_sized total zero before [] es sized h = nothing_more before es h sized
entries_sized total (suc n) before [] es sized h = nothing_more before es h sized
entries_sized total zero before (x ∷ xs) es sized h = cc
entries_sized total (suc n) before (x ∷ xs) es sized h =
    let s = x ∷ xs in
    let by = entry_by (entries_of total n) (total - length s) before s (entry_at s) es h in
    entries_sized total n (before ++ by.0 ∷ []) (drop (length (entry_bytes by.0)) s) es (each_last IsSized before by.0 sized (entry_sized s by.0 by.1.0)) by.1.1

content_sized : (tree : Bool) (total : ℕ) (body : List ℕ) (entries : List ObjectEntry) → content_of tree total body ≡ Ok (Tree entries) → Each IsSized entries
unfolding content_of
content_sized false total body entries h = cc
content_sized true total body entries h =
    let by = bind_ok (entries_of total (length body) [] body) (λ es. Ok (Tree es)) (Tree entries) h in
    let is : by.0 ≡ entries = let k = by.1.1 in cc in
    subst (Each IsSized) is (entries_sized total (length body) [] body by.0 tt by.1.0)

-- the entries of a tree that is read have ids of 20 bytes
pub ids_read : (s : List ℕ) (entries : List ObjectEntry) → object_read s ≡ Ok (Tree entries) → Each IsSized entries
unfolding object_read
ids_read s entries h =
    let a = bind_ok (word_of s) _ (Tree entries) h in
    let b = bind_ok (length_of 5 (drop 5 s)) _ (Tree entries) a.1.1 in
    let c = bind_ok (ends_at (length s) _ b.0) _ (Tree entries) b.1.1 in
    content_sized a.0 (length s) _ entries c.1.1

-- ---- bodies

pub body_size : (word body : List ℕ) → length body ≤ length (with_header word body)
unfolding with_header
body_size word body = omega (arith, length-append word (codes " " ++ (decimal (length body) ++ (0 ∷ body))), length-append (codes " ") (decimal (length body) ++ (0 ∷ body)), length-append (decimal (length body)) (0 ∷ body))

picked : (p q r s : Bool) (e f g h : TreeFault) (v n : ℕ) → cond p (Err e) (cond q (Err f) (cond r (Err g) (cond s (Ok v) (Err h)))) ≡ Ok n → (r ≡ false) × (v ≡ n)
picked true q r s e f g h v n is = cc
picked false true r s e f g h v n is = cc
picked false false true s e f g h v n is = cc
picked false false false true e f g h v n is = (refl, cc)
picked false false false false e f g h v n is = cc

length_small : (place : ℕ) (s : List ℕ) (n : ℕ) → length_of place s ≡ Ok n → n < 2 ^ 53
unfolding length_of
length_small place s n h =
    let k = digits_len s in
    let p =
    picked (k == 0) (slice_index s 0 == 48 && nat_lt 1 k) (nat_lt (2 ^ 53 - 1) (decimal_value (take k s))) (nat_lt k (length s) && slice_index s k == 0) (BadObject place) (BadObject (place + 1))
    (BadObject place) (BadObject (place + k)) (decimal_value (take k s)) n h in
    omega (arith, p.1, ltb-false (2 ^ 53 - 1) (decimal_value (take k s)) p.0)

abbrev ended : Result (Unit {0}) TreeFault
ended = Ok tt

ends_by : (p q : Bool) (e f : TreeFault) → cond p (Err e) (cond q (Err f) ended) ≡ ended → (p ≡ false) × (q ≡ false)
ends_by true q e f h = cc
ends_by false true e f h = cc
ends_by false false e f h = (refl, refl)

ends_is : (total place n : ℕ) → ends_at total place n ≡ Ok tt → place + n ≡ total
unfolding ends_at
ends_is total place n h =
    let by = ends_by (nat_lt total (place + n)) (nat_lt (place + n) total) _ _ h in
    omega (arith, ltb-false total (place + n) by.0, ltb-false (place + n) total by.1)

digits_most : (ds rest : List ℕ) → digits_len (ds ++ 0 ∷ rest) ≤ length ds
digits_most [] rest = omega arith
digits_most (d ∷ ds) rest = by_digit (digits_most ds rest) (is_ascii_digit d)
  where
    by_digit : digits_len (ds ++ 0 ∷ rest) ≤ length ds → (b : Bool) → cond b (1 + digits_len (ds ++ 0 ∷ rest)) 0 ≤ suc (length ds)
    by_digit more true = omega (arith, more)
    by_digit more false = omega arith

abbrev pub word : Bool → List ℕ
word false = codes "blob "
word true = codes "tree "

behind_word : (b : Bool) (t : List ℕ) → drop 5 (word b ++ t) ≡ t
behind_word false t = refl
behind_word true t = refl

word_length : (b : Bool) (t : List ℕ) → length (word b ++ t) ≡ 5 + length t
word_length false t = omega arith
word_length true t = omega arith

-- an object that is read has a body of fewer than 2^53 bytes
pub short_read : (b : Bool) (body : List ℕ) (o : Object) → object_read (word b ++ (decimal (length body) ++ (0 ∷ body))) ≡ Ok o → length body < 2 ^ 53
unfolding object_read
short_read b body o h =
    let t = decimal (length body) ++ (0 ∷ body) in
    let s = word b ++ t in
    let k = digits_len (drop 5 s) in
    let one = bind_ok (word_of s) _ o h in
    let two = bind_ok (length_of 5 (drop 5 s)) _ o one.1.1 in
    let three = bind_ok (ends_at (length s) (k + 6) two.0) _ o two.1.1 in
    let n = two.0 in
    let small = length_small 5 (drop 5 s) n two.1.0 in
    let ends = ends_is (length s) (k + 6) n three.1.0 in
    let few : k ≤ length (decimal (length body)) = omega (arith, ap digits_len (behind_word b t), digits_most (decimal (length body)) body) in
    let all : length s ≡ 5 + (length (decimal (length body)) + (1 + length body)) =
    word_length b t ∙ ap (λ m. 5 + m) (length-append (decimal (length body)) (0 ∷ body) ∙ omega arith) in
    omega (arith, ends, few, small, all)
