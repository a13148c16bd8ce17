-- The content of a string in a text in UTF-8 is UTF-8.
use Rattle.std.proofs.Common.{◌≡◌, ℕ, zero, suc, ◌+◌, ◌*◌, ◌<◌, ◌≤◌, ◌==◌, ◌&&◌, ◌||◌, List, [], ◌∷◌, ◌++◌, length, Bool, true, false, cond, nat_lt, nat_le, Option, Some, None, option_and_then, IsUtf8, inl, inr, refl, sym, subst, arith, append_assoc, append-nil}
use Rattle.std.specs.Prelude.{⊤}
use Rattle.std.specs.Char.{encode_utf8, is_digit, digit_value, IsScalar}
use Rattle.std.proofs.Math.Utf8.{low_scalar}
use Rattle.std.proofs.lemmas.Bool.{and_parts, cases_lt, eqb-true, leb-true, ltb-true, lt-ltb, le-leb, true≢false}
use Rattle.std.proofs.lemmas.Str.{IsUtf8-append, IsUtf8-encode}
use Rattle.json.specs.Text.{content, plain, after_backslash, after_u, after_high, prepend, short_escape, code_unit, is_high_surrogate, is_low_surrogate, surrogate_pair}
use Rattle.fluid_texts.proofs.Bytes.{before, behind, one_byte}

-- behind these bytes, where there is something
abbrev pub OnText : List ℕ → Option (List ℕ) → Type 0
OnText p None = ⊤
OnText p (Some c) = IsUtf8 (p ++ c)

with_prefix : (p : List ℕ) (o : Option (List ℕ)) → IsUtf8 p → OnText [] o → OnText p o
with_prefix p None u h = tt
with_prefix p (Some c) u h = IsUtf8-append p c u h

prepended : (bytes : List ℕ) (o : Option (List ℕ)) → IsUtf8 bytes → OnText [] o → OnText [] (prepend bytes o)
prepended bytes None u h = tt
prepended bytes (Some c) u h = IsUtf8-append bytes c u h

moved : (p : List ℕ) (x : ℕ) (o : Option (List ℕ)) → OnText (p ++ x ∷ []) o → OnText p (prepend (x ∷ []) o)
moved p x None h = tt
moved p x (Some c) h = subst IsUtf8 (append_assoc p (x ∷ []) c) h

-- ---- escapes

short_small : (x c : ℕ) → short_escape x ≡ Some c → (x < 128) × (c < 128)
unfolding short_escape
short_small x c h = of (x == 34) (x == 92) (x == 47) (x == 98) (x == 102) (x == 110) (x == 114) (x == 116) refl refl refl refl refl refl refl refl h
  where
    same : (n : ℕ) → Some n ≡ Some c → n ≡ c
    same n h = cc

    is : (k n : ℕ) → (x == k) ≡ true → k < 128 → n < 128 → Some n ≡ Some c → (x < 128) × (c < 128)
    is k n e low lower h = (omega (arith, eqb-true x k e, low), omega (arith, same n h, lower))

    own : (k : ℕ) → (x == k) ≡ true → k < 128 → Some x ≡ Some c → (x < 128) × (c < 128)
    own k e low h = (omega (arith, eqb-true x k e, low), omega (arith, eqb-true x k e, same x h, low))

    of : (q b s bb bf bn br bt : Bool) → (x == 34) ≡ q → (x == 92) ≡ b → (x == 47) ≡ s → (x == 98) ≡ bb → (x == 102) ≡ bf → (x == 110) ≡ bn → (x == 114) ≡ br → (x == 116) ≡ bt
        → cond (q || b || s) (Some x) (cond bb (Some 8) (cond bf (Some 12) (cond bn (Some 10) (cond br (Some 13) (cond bt (Some 9) None))))) ≡ Some c → (x < 128) × (c < 128)
    of true b s bb bf bn br bt e f g i j k l m h = own 34 e (omega arith) h
    of false true s bb bf bn br bt e f g i j k l m h = own 92 f (omega arith) h
    of false false true bb bf bn br bt e f g i j k l m h = own 47 g (omega arith) h
    of false false false true bf bn br bt e f g i j k l m h = is 98 8 i (omega arith) (omega arith) h
    of false false false false true bn br bt e f g i j k l m h = is 102 12 j (omega arith) (omega arith) h
    of false false false false false true br bt e f g i j k l m h = is 110 10 k (omega arith) (omega arith) h
    of false false false false false false true bt e f g i j k l m h = is 114 13 l (omega arith) (omega arith) h
    of false false false false false false false true e f g i j k l m h = is 116 9 m (omega arith) (omega arith) h
    of false false false false false false false false e f g i j k l m h = cc

small_digit : (a : ℕ) → is_digit a 16 ≡ true → a < 128
small_digit a h = let low : digit_value a < 16 = ltb-true (digit_value a) 16 h in grind (arith, low)

-- four digits, and the number that they spell
record Four (a b c d u : ℕ) : Type 0 where
  pub first : a < 128
  pub second : b < 128
  pub third : c < 128
  pub fourth : d < 128
  pub number : u < 65536

four : (a b c d u : ℕ) → code_unit a b c d ≡ Some u → Four a b c d u
unfolding code_unit
four a b c d u h = of (is_digit a 16) (is_digit b 16) (is_digit c 16) (is_digit d 16) refl refl refl refl h
  where
    value : ℕ
    value = digit_value a * 4096 + digit_value b * 256 + digit_value c * 16 + digit_value d

    same : Some value ≡ Some u → value ≡ u
    same h = cc

    low : (x : ℕ) → is_digit x 16 ≡ true → digit_value x < 16
    low x e = ltb-true (digit_value x) 16 e

    of : (p q r s : Bool) → is_digit a 16 ≡ p → is_digit b 16 ≡ q → is_digit c 16 ≡ r → is_digit d 16 ≡ s → cond (p && q && r && s) (Some value) None ≡ Some u → Four a b c d u
    of true true true true e f g k h = record {
      first = small_digit a e;
      second = small_digit b f;
      third = small_digit c g;
      fourth = small_digit d k;
      number = omega (arith, same h, low a e, low b f, low c g, low d k);
    }
    of p q r s e f g k h = cc

abbrev IsHigh : ℕ → Type 0
IsHigh h = (55296 ≤ h) × (h < 56320)

is_high : (u : ℕ) → is_high_surrogate u ≡ true → IsHigh u
is_high u h = let parts = and_parts (nat_le 55296 u) (nat_lt u 56320) h in (leb-true 55296 u parts.0, ltb-true u 56320 parts.1)

wide : (c : ℕ) → 57344 ≤ c → c < 1114112 → IsScalar c
wide c low high = by (nat_lt c 55296)
  where
    by : (b : Bool) → cond b true (nat_le 57344 c && nat_lt c 1114112) ≡ true
    by true = refl
    by false = rw (le-leb 57344 c low, lt-ltb c 1114112 high) refl

not_both : (b : Bool) → b ≡ true → b ≡ false → ⊥
not_both true is never = absurd (true≢false never)
not_both false is never = absurd (true≢false (sym is))

single : (u : ℕ) → u < 65536 → is_high_surrogate u ≡ false → is_low_surrogate u ≡ false → IsScalar u
single u fits high low = elim (cases_lt u 55296) [
  | inl small ↦ low_scalar u small
  | inr least ↦ elim (cases_lt u 56320) [
    | inl small ↦ absurd (not_both (is_high_surrogate u) (rw (le-leb 55296 u least, lt-ltb u 56320 small) refl) high)
    | inr more ↦ elim (cases_lt u 57344) [
      | inl small ↦ absurd (not_both (is_low_surrogate u) (rw (le-leb 56320 u more, lt-ltb u 57344 small) refl) low)
      | inr most ↦ wide u most (omega (arith, fits))
    ]
  ]
]

pair_scalar : (h l : ℕ) → IsHigh h → is_low_surrogate l ≡ true → IsScalar (surrogate_pair h l)
pair_scalar h l high low =
    let parts = and_parts (nat_le 56320 l) (nat_lt l 57344) low in
    let least = leb-true 56320 l parts.0 in
    let most = ltb-true l 57344 parts.1 in
    wide (surrogate_pair h l) (omega (arith, high.0, high.1, least, most)) (omega (arith, high.0, high.1, least, most))

-- ---- what is read of a text that begins within a string

record Contents (s : List ℕ) : Type 0 where
  pub inside : (p : List ℕ) → IsUtf8 (p ++ s) → OnText p (content plain s)
  pub escaped : IsUtf8 s → OnText [] (content after_backslash s)
  pub unit : IsUtf8 s → OnText [] (content after_u s)
  pub pair : (h : ℕ) → IsHigh h → IsUtf8 s → OnText [] (content (after_high h) s)

nothing : Contents []
unfolding content
nothing = record { inside = λ p u. tt; escaped = λ u. tt; unit = λ u. tt; pair = λ h high u. tt }

inside_by : (x : ℕ) (xs p : List ℕ) → Contents xs → IsUtf8 (p ++ x ∷ xs) → (q b s : Bool) → (x == 34) ≡ q → (x == 92) ≡ b
    → OnText p (cond q (Some []) (cond b (content after_backslash xs) (cond s None (prepend (x ∷ []) (content plain xs)))))
inside_by x xs p h u true b s is_q is_b = subst IsUtf8 (sym (append-nil p)) (before p xs x (omega (arith, eqb-true x 34 is_q)) u)
inside_by x xs p h u false true s is_q is_b =
    let small : x < 128 = omega (arith, eqb-true x 92 is_b) in
    with_prefix p (content after_backslash xs) (before p xs x small u) (h.escaped (behind p xs x small u))
inside_by x xs p h u false false true is_q is_b = tt
inside_by x xs p h u false false false is_q is_b = moved p x (content plain xs) (h.inside (p ++ x ∷ []) (subst IsUtf8 (sym (append_assoc p (x ∷ []) xs)) u))

inside_step : (x : ℕ) (xs p : List ℕ) → Contents xs → IsUtf8 (p ++ x ∷ xs) → OnText p (content plain (x ∷ xs))
unfolding content
inside_step x xs p h u = inside_by x xs p h u (x == 34) (x == 92) (nat_lt x 32) refl refl

escaped_by : (x : ℕ) (xs : List ℕ) → Contents xs → IsUtf8 (x ∷ xs) → (b : Bool) → (x == 117) ≡ b → (o : Option ℕ) → short_escape x ≡ o
    → OnText [] (cond b (content after_u xs) (option_and_then (λ c. prepend (c ∷ []) (content plain xs)) o))
escaped_by x xs h u true is o e = h.unit (behind [] xs x (omega (arith, eqb-true x 117 is)) u)
escaped_by x xs h u false is None e = tt
escaped_by x xs h u false is (Some c) e =
    let small = short_small x c e in
    prepended (c ∷ []) (content plain xs) (one_byte c small.1) (h.inside [] (behind [] xs x small.0 u))

escaped_step : (x : ℕ) (xs : List ℕ) → Contents xs → IsUtf8 (x ∷ xs) → OnText [] (content after_backslash (x ∷ xs))
unfolding content
escaped_step x xs h u = escaped_by x xs h u (x == 117) refl (short_escape x) refl

-- what stands behind four digits
behind_four : (a b c d n : ℕ) (xs : List ℕ) → Four a b c d n → IsUtf8 (a ∷ b ∷ c ∷ d ∷ xs) → IsUtf8 xs
behind_four a b c d n xs f u = behind [] xs d f.fourth (behind [] (d ∷ xs) c f.third (behind [] (c ∷ d ∷ xs) b f.second (behind [] (b ∷ c ∷ d ∷ xs) a f.first u)))

unit_by : (a b c d : ℕ) (xs : List ℕ) → Contents xs → IsUtf8 (a ∷ b ∷ c ∷ d ∷ xs) → (o : Option ℕ) → code_unit a b c d ≡ o
    → OnText [] (option_and_then (λ n. cond (is_high_surrogate n) (content (after_high n) xs) (cond (is_low_surrogate n) None (prepend (encode_utf8 n) (content plain xs)))) o)
unit_by a b c d xs h u None e = tt
unit_by a b c d xs h u (Some n) e = by_half (four a b c d n e) (is_high_surrogate n) (is_low_surrogate n) refl refl
  where
    by_half : Four a b c d n → (high low : Bool) → is_high_surrogate n ≡ high → is_low_surrogate n ≡ low
        → OnText [] (cond high (content (after_high n) xs) (cond low None (prepend (encode_utf8 n) (content plain xs))))
    by_half f true low is_h is_l = h.pair n (is_high n is_h) (behind_four a b c d n xs f u)
    by_half f false true is_h is_l = tt
    by_half f false false is_h is_l = prepended (encode_utf8 n) (content plain xs) (IsUtf8-encode n (single n f.number is_h is_l)) (h.inside [] (behind_four a b c d n xs f u))

pair_by : (h s t a b c d : ℕ) (xs : List ℕ) → IsHigh h → Contents xs → IsUtf8 (s ∷ t ∷ a ∷ b ∷ c ∷ d ∷ xs) → (p q : Bool) → (s == 92) ≡ p → (t == 117) ≡ q → (o : Option ℕ) → code_unit a b c d ≡ o
    → OnText [] (cond (p && q) (option_and_then (λ l. cond (is_low_surrogate l) (prepend (encode_utf8 (surrogate_pair h l)) (content plain xs)) None) o) None)
pair_by h s t a b c d xs high k u false q is_p is_q o e = tt
pair_by h s t a b c d xs high k u true false is_p is_q o e = tt
pair_by h s t a b c d xs high k u true true is_p is_q None e = tt
pair_by h s t a b c d xs high k u true true is_p is_q (Some l) e = by_low (four a b c d l e) (is_low_surrogate l) refl
  where
    rest : Four a b c d l → IsUtf8 xs
    rest f = behind_four a b c d l xs f (behind [] (a ∷ b ∷ c ∷ d ∷ xs) t (omega (arith, eqb-true t 117 is_q)) (behind [] (t ∷ a ∷ b ∷ c ∷ d ∷ xs) s (omega (arith, eqb-true s 92 is_p)) u))

    by_low : Four a b c d l → (low : Bool) → is_low_surrogate l ≡ low → OnText [] (cond low (prepend (encode_utf8 (surrogate_pair h l)) (content plain xs)) None)
    by_low f true is_l = prepended (encode_utf8 (surrogate_pair h l)) (content plain xs) (IsUtf8-encode (surrogate_pair h l) (pair_scalar h l high is_l)) (k.inside [] (rest f))
    by_low f false is_l = tt

-- ---- any text

abbrev Shorter : ℕ → Type 0
Shorter n = (s : List ℕ) → length s ≤ n → Contents s

unit_step : (n : ℕ) → Shorter n → (s : List ℕ) → length s ≤ suc n → IsUtf8 s → OnText [] (content after_u s)
unfolding content
unit_step n h [] short u = tt
unit_step n h (a ∷ []) short u = tt
unit_step n h (a ∷ b ∷ []) short u = tt
unit_step n h (a ∷ b ∷ c ∷ []) short u = tt
unit_step n h (a ∷ b ∷ c ∷ d ∷ xs) short u = unit_by a b c d xs (h xs (omega (arith, short))) u (code_unit a b c d) refl

pair_step : (n : ℕ) → Shorter n → (high : ℕ) → IsHigh high → (s : List ℕ) → length s ≤ suc n → IsUtf8 s → OnText [] (content (after_high high) s)
unfolding content
pair_step n h high is [] short u = tt
pair_step n h high is (a ∷ []) short u = tt
pair_step n h high is (a ∷ b ∷ []) short u = tt
pair_step n h high is (a ∷ b ∷ c ∷ []) short u = tt
pair_step n h high is (a ∷ b ∷ c ∷ d ∷ []) short u = tt
pair_step n h high is (a ∷ b ∷ c ∷ d ∷ e ∷ []) short u = tt
pair_step n h high is (s ∷ t ∷ a ∷ b ∷ c ∷ d ∷ xs) short u = pair_by high s t a b c d xs is (h xs (omega (arith, short))) u (s == 92) (t == 117) refl refl (code_unit a b c d) refl

step : (n : ℕ) → Shorter n → (x : ℕ) (xs : List ℕ) → length xs ≤ n → Contents (x ∷ xs)
step n h x xs short =
    let rest = h xs short in
    record {
      inside = λ p u. inside_step x xs p rest u;
      escaped = λ u. escaped_step x xs rest u;
      unit = λ u. unit_step n h (x ∷ xs) (omega (arith, short)) u;
      pair = λ high is u. pair_step n h high is (x ∷ xs) (omega (arith, short)) u;
    }

all_contents : (n : ℕ) → Shorter n
all_contents zero [] h = nothing
all_contents zero (x ∷ xs) h = absurd (omega (arith, h))
all_contents (suc n) [] h = nothing
all_contents (suc n) (x ∷ xs) h = step n (all_contents n) x xs (omega (arith, h))

pub content_text : (s : List ℕ) → IsUtf8 s → OnText [] (content plain s)
content_text s u = (all_contents (length s) s (omega arith)).inside [] u
