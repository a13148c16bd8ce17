-- The bytes from which an object is read are the bytes of that object.
use Rattle.std.proofs.Common.{◌≡◌, ◌⊎◌, inl, inr, ℕ, zero, suc, ◌+◌, ◌-◌, ◌^◌, ◌*◌, ◌<◌, ◌==◌, ◌&&◌, nat_lt, List, [], ◌∷◌, ◌++◌, length, get_or, take, drop, fold, flat_map, Bool, true, false, cond, Option, Some, None, option_and_then, Result, Ok, Err, Ordering, Less, Equal, Greater, decimal, refl, sym, ap, ap₂, ◌∙◌, subst, arith, append_assoc, append-nil, length-drop}
use Rattle.std.specs.Prelude.{codes, slice_get}
use Rattle.std.specs.Cmp.Lexicographic.{slice_cmp}
use Rattle.std.specs.Ordering.{nat_cmp, is_lt, ordering_reverse}
use Rattle.std.proofs.lemmas.Cmp.{nat_list_cmp_total}
use Rattle.std.specs.Char.{is_ascii_digit}
use Rattle.std.specs.List.{common_prefix_len, position_or_len}
use Rattle.std.specs.Str.Parse.{AllDigits}
use Rattle.std.proofs.lemmas.Bool.{eqb-true, eqb-false, leb-true, ltb-true, ltb-false, and_parts}
use Rattle.std.proofs.lemmas.Fmt.{decimal-digits_value}
use Rattle.std.proofs.lemmas.List.{take-append-drop, drop_more, drop-drop, length-take-le}
use Rattle.std.proofs.lemmas.List.Sums.{split_at_first, passes_at_first, fold-append}
use Rattle.std.proofs.lemmas.Str.{digit_value_digit}
use Rattle.std.proofs.lemmas.Str.Parse.{IsNumeralModel, numerals_by_fold, tells_digits}
use Rattle.std.proofs.Math.Seq.{drop-append_seam}
use Rattle.fluid_tree.specs.Identity.{◌>>=◌}
use Rattle.fluid_tree.specs.Object.{mode, entry_bytes, sort_key, placed, in_order, with_header, tree_bytes, object_bytes}
use Rattle.fluid_tree.specs.Reading.{common, word_of, digits_len, decimal_value, length_of, ends_at, named_at, entry_at, is_behind, fits_behind, entry_or, entries_of, content_of, object_read}
use Rattle.fluid_tree.specs.declared.object.Object.{Object}
use Rattle.fluid_tree.specs.declared.object.Object.TheVariants.{Blob, Tree}
use Rattle.fluid_tree.specs.declared.object.ObjectEntry.{ObjectEntry}
use Rattle.fluid_tree.specs.declared.fault.TreeFault.TheVariants.{BadObject}
use Rattle.fluid_tree.specs.declared.fault.TreeFault.{TreeFault}

pub bind_ok : {A B : Type 0} (r : Result A TreeFault) (f : A → Result B TreeFault) (b : B) → (r >>= f) ≡ Ok b → (a : A) × ((r ≡ Ok a) × (f a ≡ Ok b))
bind_ok (Ok a) f b h = (a, (refl, h))
bind_ok (Err e) f b h = cc

-- ---- the word

prefix_step : (b : Bool) (x y : ℕ) (xs ys : List ℕ) → (x == y) ≡ b → cond b (1 + common_prefix_len (λ u v. u == v) xs ys) 0 ≡ suc (length xs)
    → (common_prefix_len (λ u v. u == v) xs ys ≡ length xs → ys ≡ xs ++ drop (length xs) ys) → y ∷ ys ≡ x ∷ (xs ++ drop (length xs) ys)
prefix_step true x y xs ys is h more = ap₂ (λ u l. u ∷ l) (sym (eqb-true x y is)) (more (omega arith))
prefix_step false x y xs ys is h more = absurd (omega arith)

prefix : (w s : List ℕ) → common_prefix_len (λ u v. u == v) w s ≡ length w → s ≡ w ++ drop (length w) s
prefix [] s h = refl
prefix (x ∷ xs) [] h = absurd (omega arith)
prefix (x ∷ xs) (y ∷ ys) h = prefix_step (x == y) x y xs ys refl h (prefix xs ys)

prefix_of : (w s : List ℕ) → common w s ≡ length w → s ≡ w ++ drop (length w) s
unfolding common
prefix_of w s h = prefix w s h

word_by : (p q : Bool) (e : TreeFault) (b : Bool) → cond p (Ok false) (cond q (Ok true) (Err e)) ≡ Ok b → ((p ≡ true) × (b ≡ false)) ⊎ ((q ≡ true) × (b ≡ true))
word_by true q e b h = inl (refl, cc)
word_by false true e b h = inr (refl, cc)
word_by false false e b h = cc

abbrev pub word : Bool → List ℕ
word false = codes "blob "
word true = codes "tree "

pub word_is : (s : List ℕ) (b : Bool) → word_of s ≡ Ok b → s ≡ word b ++ drop 5 s
unfolding word_of
word_is s b h = go (word_by (common (codes "blob ") s == 5) (common (codes "tree ") s == 5) _ b h)
  where
    go : ((common (codes "blob ") s == 5) ≡ true) × (b ≡ false) ⊎ ((common (codes "tree ") s == 5) ≡ true) × (b ≡ true) → s ≡ word b ++ drop 5 s
    go (inl p) = prefix_of (codes "blob ") s (eqb-true _ 5 p.0) ∙ ap (λ c. word c ++ drop 5 s) (sym p.1)
    go (inr p) = prefix_of (codes "tree ") s (eqb-true _ 5 p.0) ∙ ap (λ c. word c ++ drop 5 s) (sym p.1)

-- ---- the length

digits_step : (b : Bool) (x : ℕ) (xs : List ℕ) → is_ascii_digit x ≡ b → AllDigits 10 (take (digits_len xs) xs) → AllDigits 10 (take (cond b (1 + digits_len xs) 0) (x ∷ xs))
digits_step false x xs is more = tt
digits_step true x xs is more =
    let next : 1 + digits_len xs ≡ suc (digits_len xs) = omega arith in
    let within = and_parts _ _ is in
    let low = leb-true 48 x within.0 in
    let high = leb-true x 57 within.1 in
    rw next (omega (arith, digit_value_digit x (low, high)), more)

digits_are : (s : List ℕ) → AllDigits 10 (take (digits_len s) s)
digits_are [] = tt
digits_are (x ∷ xs) = digits_step (is_ascii_digit x) x xs refl (digits_are xs)

pub model : IsNumeralModel (AllDigits 10) decimal_value
model = numerals_by_fold (AllDigits 10) tells_digits (λ n ds. fold (λ m digit. m * 10 + (digit - 48)) n ds) (record { empty = λ n. refl; more = λ n c cs k. refl })

picked : (p q r s : Bool) (e f g h : TreeFault) (v n : ℕ) → cond p (Err e) (cond q (Err f) (cond r (Err g) (cond s (Ok v) (Err h)))) ≡ Ok n
    → (p ≡ false) × ((q ≡ false) × ((r ≡ false) × ((s ≡ true) × (v ≡ n))))
picked true q r s e f g h v n is = cc
picked false true r s e f g h v n is = cc
picked false false true s e f g h v n is = cc
picked false false false true e f g h v n is = (refl, (refl, (refl, (refl, cc))))
picked false false false false e f g h v n is = cc

first_of : (ds rest : List ℕ) → 0 < length ds → get_or (ds ++ rest) 0 0 ≡ get_or ds 0 0
first_of [] rest h = absurd (omega arith)
first_of (d ∷ ds) rest h = refl

is_eq_by : (c : Bool) (a b : ℕ) → (a == b) ≡ c → a ≡ b → c ≡ true
is_eq_by true a b h e = refl
is_eq_by false a b h e = absurd (eqb-false a b h e)

is_eq : (a b : ℕ) → a ≡ b → (a == b) ≡ true
is_eq a b e = is_eq_by (a == b) a b refl e

no_lead : (a b : Bool) → (a && b) ≡ false → a ≡ true → b ≡ false
no_lead true b h k = h
no_lead false b h k = cc

-- the digits are those of the length, and a zero byte stands behind them
pub length_is : (place : ℕ) (s : List ℕ) (n : ℕ) → length_of place s ≡ Ok n → s ≡ decimal n ++ (0 ∷ drop (digits_len s + 1) s)
unfolding length_of
length_is place s n h =
    let k = digits_len s in
    let p = picked _ _ _ _ _ _ _ _ _ n h in
    let some : 0 < k = omega (arith, eqb-false k 0 p.0) in
    let small : n < 2 ^ 64 = omega (arith, p.1.1.1.1, ltb-false (2 ^ 53 - 1) (decimal_value (take k s)) p.1.1.0) in
    let ends = and_parts _ _ p.1.1.1.0 in
    let within : k < length s = ltb-true k (length s) ends.0 in
    let zero_is : get_or s k 0 ≡ 0 = eqb-true _ 0 ends.1 in
    let size : length (take k s) ≡ k = length-take-le k s (omega arith) in
    let cut = take-append-drop k s in
    let lead : get_or (take k s) 0 0 ≡ 48 → length (take k s) ≡ 1 = λ is.
    let first : get_or s 0 0 ≡ 48 = ap (λ l. get_or l 0 0) (sym cut) ∙ first_of (take k s) (drop k s) (omega arith) ∙ is in
    let one = ltb-false 1 k (no_lead _ _ p.1.0 (is_eq (get_or s 0 0) 48 first)) in
    omega arith in
    let digits : decimal (decimal_value (take k s)) ≡ take k s = decimal-digits_value model (take k s) (digits_are s) (omega arith) lead (omega (arith, p.1.1.1.1)) in
    sym cut ∙ ap₂ (λ l r. l ++ r) (sym digits ∙ ap decimal p.1.1.1.1) (drop_more s k 0 within ∙ ap (λ x. x ∷ drop (k + 1) s) zero_is)

-- ---- an entry

mode_by : (p q : Bool) (f : Bool → Option ObjectEntry) (e : ObjectEntry) → option_and_then f (cond p (Some true) (cond q (Some false) None)) ≡ Some e → ((p ≡ true) × (f true ≡ Some e)) ⊎ ((q ≡ true) × (f false ≡ Some e))
mode_by true q f e h = inl (refl, h)
mode_by false true f e h = inr (refl, h)
mode_by false false f e h = cc

named_by : (c : Bool) (x e : ObjectEntry) → cond c (Some x) None ≡ Some e → (c ≡ true) × (x ≡ e)
named_by true x e h = (refl, cc)
named_by false x e h = cc

abbrev rest_of : List ℕ → List ℕ
rest_of t = drop 20 (drop (position_or_len (λ x. x == 0) t + 1) t)

named_is : (b : Bool) (t : List ℕ) (e : ObjectEntry) → named_at b (position_or_len (λ x. x == 0) t) t ≡ Some e → (e.tree ≡ b) × (t ≡ (e.name ++ (0 ∷ e.id)) ++ rest_of t)
named_is b t e h =
    let end = position_or_len (λ x. x == 0) t in
    let by = named_by _ _ e h in
    let fits = and_parts _ _ by.0 in
    let within : end < length t = omega (arith, ltb-true (end + 20) (length t) fits.0) in
    let zero_is : get_or t end 0 ≡ 0 = eqb-true _ 0 (passes_at_first (λ x. x == 0) t 0 within) in
    let behind = sym (take-append-drop 20 (drop (end + 1) t)) in
    let all : t ≡ take end t ++ (0 ∷ (take 20 (drop (end + 1) t) ++ rest_of t)) =
    split_at_first (λ x. x == 0) t 0 within ∙ ap₂ (λ x l. take end t ++ (x ∷ l)) zero_is behind in (
      sym (ap (λ f. f.tree) by.1),
      all ∙ sym (append_assoc (take end t) (0 ∷ take 20 (drop (end + 1) t)) (rest_of t)) ∙ ap (λ f. (f.name ++ (0 ∷ f.id)) ++ rest_of t) by.1,
    )

behind_prefix : (s x rest : List ℕ) → s ≡ x ++ rest → s ≡ x ++ drop (length x) s
behind_prefix s x rest h = h ∙ ap (λ l. x ++ l) (sym (ap (drop (length x)) h ∙ drop-append_seam x rest))

joined : (e : ObjectEntry) (tree : Bool) (t : List ℕ) → (e.tree ≡ tree) × (t ≡ (e.name ++ (0 ∷ e.id)) ++ rest_of t) → mode tree ++ (codes " " ++ t) ≡ entry_bytes e ++ rest_of t
unfolding entry_bytes
joined e tree t h =
    let body = e.name ++ (0 ∷ e.id) in
    ap (λ l. mode tree ++ (codes " " ++ l)) h.1 ∙ sym (append_assoc (mode tree) (codes " " ++ body) (rest_of t)) ∙ ap (λ b. (mode b ++ (codes " " ++ body)) ++ rest_of t) (sym h.0)

pub entry_is : (s : List ℕ) (e : ObjectEntry) → entry_at s ≡ Some e → s ≡ entry_bytes e ++ drop (length (entry_bytes e)) s
unfolding entry_at
entry_is s e h = go (mode_by (common (codes "40000 ") s == 6) (common (codes "100644 ") s == 7) _ e h)
  where
    go : ((common (codes "40000 ") s == 6) ≡ true) × (named_at true (position_or_len (λ x. x == 0) (drop 6 s)) (drop 6 s) ≡ Some e)
        ⊎ ((common (codes "100644 ") s == 7) ≡ true) × (named_at false (position_or_len (λ x. x == 0) (drop 7 s)) (drop 7 s) ≡ Some e)
        → s ≡ entry_bytes e ++ drop (length (entry_bytes e)) s
    go (inl p) = behind_prefix s (entry_bytes e) (rest_of (drop 6 s)) (prefix_of (codes "40000 ") s (eqb-true _ 6 p.0) ∙ joined e true (drop 6 s) (named_is true (drop 6 s) e p.1))
    go (inr p) = behind_prefix s (entry_bytes e) (rest_of (drop 7 s)) (prefix_of (codes "100644 ") s (eqb-true _ 7 p.0) ∙ joined e false (drop 7 s) (named_is false (drop 7 s) e p.1))

-- ---- the entries of a body

abbrev pub key : ObjectEntry → List ℕ
key e = sort_key e.tree e.name

abbrev pub IsBelow : ObjectEntry → ObjectEntry → Type 0
IsBelow e f = slice_cmp nat_cmp (key e) (key f) ≡ Less

abbrev AllBelow : List ObjectEntry → ObjectEntry → Type 0
AllBelow [] e = Unit {0}
AllBelow (f ∷ fs) e = IsBelow f e × AllBelow fs e

abbrev pub IsBelowAll : ObjectEntry → List ObjectEntry → Type 0
IsBelowAll e [] = Unit {0}
IsBelowAll e (f ∷ fs) = IsBelow e f × IsBelowAll e fs

abbrev pub IsRising : List ObjectEntry → Type 0
IsRising [] = Unit {0}
IsRising (e ∷ es) = IsBelowAll e es × IsRising es

below_more : (e : ObjectEntry) (es : List ObjectEntry) (f : ObjectEntry) → IsBelowAll e es → IsBelow e f → IsBelowAll e (es ++ f ∷ [])
below_more e [] f h k = (k, tt)
below_more e (g ∷ gs) f h k = (h.0, below_more e gs f h.1 k)

rising_more : (es : List ObjectEntry) (e : ObjectEntry) → IsRising es → AllBelow es e → IsRising (es ++ e ∷ [])
rising_more [] e h k = (tt, tt)
rising_more (f ∷ fs) e h k = (below_more f fs e h.0 k.0, rising_more fs e h.1 k.1)

less_from : (o : Ordering) → is_lt o ≡ true → o ≡ Less
less_from Less h = refl
less_from Equal h = cc
less_from Greater h = cc

last_again : (f g : ObjectEntry) (gs : List ObjectEntry) → slice_get (f ∷ g ∷ gs) (length (f ∷ g ∷ gs) - 1) ≡ slice_get (g ∷ gs) (length (g ∷ gs) - 1)
last_again f g gs =
    let far : length (f ∷ g ∷ gs) - 1 ≡ suc (length gs) = omega arith in
    let near : length (g ∷ gs) - 1 ≡ length gs = omega arith in
    ap (slice_get (f ∷ g ∷ gs)) far ∙ ap (slice_get (g ∷ gs)) (sym near)

all_below : (es : List ObjectEntry) (e : ObjectEntry) → IsRising es → is_behind (slice_get es (length es - 1)) e ≡ true → AllBelow es e
all_below [] e r h = tt
all_below (f ∷ []) e r h =
    let one : length (f ∷ []) - 1 ≡ 0 = omega arith in
    (less_from _ (sym (ap (λ i. is_behind (slice_get (f ∷ []) i) e) one) ∙ h), tt)
all_below (f ∷ g ∷ gs) e r h =
    let more = all_below (g ∷ gs) e r.1 (sym (ap (λ o. is_behind o e) (last_again f g gs)) ∙ h) in
    (nat_list_cmp_total.trans (key f) (key g) (key e) r.0.0 more.0, more)

placed_last : (es : List ObjectEntry) (e : ObjectEntry) → AllBelow es e → placed e es ≡ es ++ e ∷ []
placed_last [] e h = refl
placed_last (f ∷ fs) e h =
    let above : slice_cmp nat_cmp (key e) (key f) ≡ Greater = nat_list_cmp_total.antisymm (key e) (key f) ∙ ap ordering_reverse h.0 in
    rw above (ap (λ l. f ∷ l) (placed_last fs e h.1))

in_order_more : (es : List ObjectEntry) (e : ObjectEntry) → in_order es ≡ es → AllBelow es e → in_order (es ++ e ∷ []) ≡ es ++ e ∷ []
in_order_more es e same below = fold-append (λ sorted f. placed f sorted) [] es (e ∷ []) ∙ ap (placed e) same ∙ placed_last es e below

fits_by : (c : Bool) (x y : Result (List ObjectEntry) TreeFault) (es : List ObjectEntry) → (y ≡ Ok es → ⊥) → cond c x y ≡ Ok es → (c ≡ true) × (x ≡ Ok es)
fits_by true x y es never h = (refl, h)
fits_by false x y es never h = absurd (never h)

pub entry_by : (f : List ObjectEntry → List ℕ → Result (List ObjectEntry) TreeFault) (place : ℕ) (before : List ObjectEntry) (s : List ℕ) (o : Option ObjectEntry) (es : List ObjectEntry)
    → entry_or f place before s o ≡ Ok es → (e : ObjectEntry) × ((o ≡ Some e) × ((fits_behind before e ≡ true) × (f (before ++ e ∷ []) (drop (length (entry_bytes e)) s) ≡ Ok es)))
entry_by f place before s None es h = cc
entry_by f place before s (Some e) es h =
    let fit = fits_by (fits_behind before e) (f (before ++ e ∷ []) (drop (length (entry_bytes e)) s)) (Err (BadObject place)) es (λ same. cc) h in
    (e, (refl, (fit.0, fit.1)))

abbrev pub Rest : List ObjectEntry → List ℕ → List ObjectEntry → Type 0
Rest before rest es = (more : List ObjectEntry) × ((es ≡ before ++ more) × ((rest ≡ flat_map entry_bytes more) × (in_order es ≡ es)))

abbrev read_as : List ObjectEntry → Result (List ObjectEntry) TreeFault
read_as es = Ok es

nothing_more : (before es : List ObjectEntry) → in_order before ≡ before → read_as before ≡ read_as es → Rest before [] es
nothing_more before es same h =
    let is : before ≡ es = cc in
    ([], (sym is ∙ sym (append-nil before), (refl, subst (λ l. in_order l ≡ l) is same)))

pub entries_are : (total n : ℕ) (before : List ObjectEntry) (rest : List ℕ) (es : List ObjectEntry) → IsRising before → in_order before ≡ before → entries_of total n before rest ≡ Ok es → Rest before rest es
unfolding entries_of
entries_are total zero before [] es rising same h = nothing_more before es same h
entries_are total (suc n) before [] es rising same h = nothing_more before es same h
entries_are total zero before (x ∷ xs) es rising same h = cc
entries_are total (suc n) before (x ∷ xs) es rising same h =
    let s = x ∷ xs in
    let by = entry_by (entries_of total n) (total - length s) before s (entry_at s) es h in
    let e = by.0 in
    let below = all_below before e rising (and_parts _ _ by.1.1.0).1 in
    let more = entries_are total n (before ++ e ∷ []) (drop (length (entry_bytes e)) s) es (rising_more before e rising below) (in_order_more before e same below) by.1.1.1 in (
      e ∷ more.0,
      (more.1.0 ∙ append_assoc before (e ∷ []) more.0, (entry_is s e by.1.0 ∙ ap (λ l. entry_bytes e ++ l) more.1.1.0, more.1.1.1)),
    )

-- ---- the object

abbrev ended : Result (Unit {0}) TreeFault
ended = Ok tt

ends_by : (p q : Bool) (e f : TreeFault) → cond p (Err e) (cond q (Err f) ended) ≡ ended → (p ≡ false) × (q ≡ false)
ends_by true q e f h = cc
ends_by false true e f h = cc
ends_by false false e f h = (refl, refl)

ends_is : (total place n : ℕ) → ends_at total place n ≡ Ok tt → place + n ≡ total
unfolding ends_at
ends_is total place n h =
    let by = ends_by (nat_lt total (place + n)) (nat_lt (place + n) total) _ _ h in
    omega (arith, ltb-false total (place + n) by.0, ltb-false (place + n) total by.1)

content_is : (tree : Bool) (total : ℕ) (body : List ℕ) (o : Object) → content_of tree total body ≡ Ok o → object_bytes o ≡ word tree ++ (decimal (length body) ++ (0 ∷ body))
unfolding content_of object_bytes with_header tree_bytes
content_is false total body o h =
    let is : Blob body ≡ o = cc in
    ap object_bytes (sym is)
content_is true total body o h =
    let by = bind_ok (entries_of total (length body) [] body) (λ es. Ok (Tree es)) o h in
    let is : Tree by.0 ≡ o = let k = by.1.1 in cc in
    let read = entries_are total (length body) [] body by.0 tt refl by.1.0 in
    let whole : body ≡ flat_map entry_bytes by.0 = read.1.1.0 ∙ ap (flat_map entry_bytes) (sym read.1.0) in
    ap object_bytes (sym is) ∙ ap (λ l. with_header (codes "tree") (flat_map entry_bytes l)) read.1.1.1 ∙ ap (with_header (codes "tree")) (sym whole)

pub object_is : (s : List ℕ) (o : Object) → object_read s ≡ Ok o → object_bytes o ≡ s
unfolding object_read
object_is s o h =
    let t = drop 5 s in
    let k = digits_len t in
    let a = bind_ok (word_of s) _ o h in
    let b = bind_ok (length_of 5 t) _ o a.1.1 in
    let c = bind_ok (ends_at (length s) (k + 6) b.0) _ o b.1.1 in
    let n = b.0 in
    let body = drop (k + 6) s in
    let ends = ends_is (length s) (k + 6) n c.1.0 in
    let size : length body ≡ n = omega (arith, length-drop (k + 6) s) in
    let far : 5 + (k + 1) ≡ k + 6 = omega arith in
    let same : drop (k + 1) t ≡ body = drop-drop (k + 1) 5 s ∙ ap (λ i. drop i s) far in
    let head = word_is s a.0 a.1.0 ∙ ap (λ l. word a.0 ++ l) (length_is 5 t n b.1.0 ∙ ap₂ (λ m l. decimal m ++ (0 ∷ l)) (sym size) same) in
    content_is a.0 (length s) body o c.1.1 ∙ sym head
