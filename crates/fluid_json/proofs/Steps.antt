-- What the walk over a text makes of the pieces of a printed text, where the depth stays below the bound.
use Rattle.std.proofs.Common.{◌≡◌, ◌≢◌, ℕ, suc, ◌-◌, ◌/◌, ◌%◌, ◌<◌, ◌≤◌, List, [], ◌∷◌, ◌++◌, Bool, true, false, cond, nat_lt, ℤ, pos, negsuc, refl, ap, ◌∙◌, arith, append_assoc, inl, inr, ◌⊎◌, subst, true≢false}
use Rattle.std.proofs.lemmas.Bool.{lt-leb, ne_eqb, cases_lt, le-ltb, lt-ltb, ltb-true}
use Rattle.std.proofs.lemmas.Fmt.{decimal_is_IsNumeral}
use Rattle.std.specs.Char.{digit_char, digit_value}
use Rattle.std.specs.Fmt.{signed_decimal}
use Rattle.std.specs.Str.Parse.{AllDigits}
use Rattle.json.specs.Print.{quoted, escape, escape_byte, escape_letter}
use Rattle.fluid_json.specs.Tree.{IsSigned}
use Rattle.fluid_json.specs.declared.nesting.Place.TheVariants.{Outside, Inside}
use Rattle.fluid_json.specs.Spelled.{reaches}

-- ---- outside strings

-- the byte is no quotation mark and no bracket
abbrev pub IsQuiet : ℕ → Type 0
IsQuiet x = (x ≢ 34) × (x ≢ 91) × (x ≢ 93) × (x ≢ 123) × (x ≢ 125)

abbrev AreQuiet : List ℕ → Type 0
AreQuiet [] = Unit {0}
AreQuiet (x ∷ xs) = IsQuiet x × AreQuiet xs

over_quiet : (top n x : ℕ) (r : List ℕ) → n < top → IsQuiet x → reaches top Outside n (x ∷ r) ≡ reaches top Outside n r
unfolding reaches
over_quiet top n x r below q =
    rw (ne_eqb x 34 q.0, ne_eqb x 91 q.1, ne_eqb x 93 q.2, ne_eqb x 123 q.3, ne_eqb x 125 q.4, lt-leb top n below) refl

over_all_quiet : (top n : ℕ) (xs r : List ℕ) → n < top → AreQuiet xs → reaches top Outside n (xs ++ r) ≡ reaches top Outside n r
over_all_quiet top n [] r below q = refl
over_all_quiet top n (x ∷ xs) r below q = over_quiet top n x (xs ++ r) below q.0 ∙ over_all_quiet top n xs r below q.1

-- ---- numbers

no_digit : (x c : ℕ) → digit_value c ≡ 36 → digit_value x < 10 → x ≢ c
no_digit x c none h e = let k : digit_value c < 10 = subst (λ y. digit_value y < 10) e h in omega (arith, none, k)

digit_is_quiet : (x : ℕ) → digit_value x < 10 → IsQuiet x
digit_is_quiet x h = (no_digit x 34 refl h, no_digit x 91 refl h, no_digit x 93 refl h, no_digit x 123 refl h, no_digit x 125 refl h)

digits_are_quiet : (ds : List ℕ) → AllDigits 10 ds → AreQuiet ds
digits_are_quiet [] h = tt
digits_are_quiet (d ∷ ds) h = (digit_is_quiet d h.0, digits_are_quiet ds h.1)

number_is_quiet : (z : ℤ) → IsSigned z → AreQuiet (signed_decimal z)
number_is_quiet (pos n) h = digits_are_quiet _ (decimal_is_IsNumeral n (omega arith)).0.1
number_is_quiet (negsuc n) h = ((λ e. omega arith, λ e. omega arith, λ e. omega arith, λ e. omega arith, λ e. omega arith), digits_are_quiet _ (decimal_is_IsNumeral (suc n) (omega arith)).0.1)

pub over_number : (top n : ℕ) (z : ℤ) (r : List ℕ) → n < top → IsSigned z → reaches top Outside n (signed_decimal z ++ r) ≡ reaches top Outside n r
over_number top n z r below h = over_all_quiet top n (signed_decimal z) r below (number_is_quiet z h)

-- ---- strings

inside_byte : (top n x : ℕ) (r : List ℕ) → n < top → x ≢ 34 → x ≢ 92 → reaches top Inside n (x ∷ r) ≡ reaches top Inside n r
unfolding reaches
inside_byte top n x r below q b = rw (ne_eqb x 34 q, ne_eqb x 92 b, lt-leb top n below) refl

inside_pair : (top n x : ℕ) (r : List ℕ) → n < top → reaches top Inside n (92 ∷ x ∷ r) ≡ reaches top Inside n r
unfolding reaches
inside_pair top n x r below = rw (lt-leb top n below) refl

digit_or_letter : (d : ℕ) → d < 16 → (d < 10) ⊎ (10 ≤ d) → (digit_char d ≢ 34) × (digit_char d ≢ 92)
digit_or_letter d h (inl l) = rw (lt-ltb d 10 l) (λ e. omega arith, λ e. omega arith)
digit_or_letter d h (inr l) = rw (le-ltb d 10 l) (λ e. omega arith, λ e. omega arith)

inside_digit : (top n d : ℕ) (r : List ℕ) → n < top → d < 16 → reaches top Inside n (digit_char d ∷ r) ≡ reaches top Inside n r
inside_digit top n d r below h = let p = digit_or_letter d h (cases_lt d 10) in inside_byte top n (digit_char d) r below p.0 p.1

inside_form : (top n x : ℕ) (r : List ℕ) (short control : Bool) → n < top → nat_lt 0 (escape_letter x) ≡ short → nat_lt x 32 ≡ control
    → reaches top Inside n (cond short (92 ∷ escape_letter x ∷ []) (cond control (92 ∷ 117 ∷ 48 ∷ 48 ∷ digit_char (x / 16) ∷ digit_char (x % 16) ∷ []) (x ∷ [])) ++ r) ≡ reaches top Inside n r
inside_form top n x r true control below s k = inside_pair top n (escape_letter x) r below
inside_form top n x r false true below s k =
    let high : x / 16 < 16 = let small = ltb-true x 32 k in omega arith in
    let low : x % 16 < 16 = omega arith in
    inside_pair top n 117 _ below ∙ inside_digit top n 0 _ below (omega arith) ∙ inside_digit top n 0 _ below (omega arith) ∙ inside_digit top n (x / 16) _ below high
    ∙ inside_digit top n (x % 16) r below low
inside_form top n x r false false below s k =
    inside_byte top n x r below (λ e. true≢false (subst (λ y. nat_lt 0 (escape_letter y) ≡ false) e s)) (λ e. true≢false (subst (λ y. nat_lt 0 (escape_letter y) ≡ false) e s))

inside_escape : (top n x : ℕ) (r : List ℕ) → n < top → reaches top Inside n (escape_byte x ++ r) ≡ reaches top Inside n r
unfolding escape_byte
inside_escape top n x r below = inside_form top n x r (nat_lt 0 (escape_letter x)) (nat_lt x 32) below refl refl

inside_text : (top n : ℕ) (s r : List ℕ) → n < top → reaches top Inside n (escape s ++ r) ≡ reaches top Inside n r
inside_text top n [] r below = refl
inside_text top n (x ∷ s) r below =
    ap (reaches top Inside n) (append_assoc (escape_byte x) (escape s) r) ∙ inside_escape top n x (escape s ++ r) below ∙ inside_text top n s r below

enters : (top n : ℕ) (r : List ℕ) → n < top → reaches top Outside n (34 ∷ r) ≡ reaches top Inside n r
unfolding reaches
enters top n r below = rw (lt-leb top n below) refl

leaves : (top n : ℕ) (r : List ℕ) → n < top → reaches top Inside n (34 ∷ r) ≡ reaches top Outside n r
unfolding reaches
leaves top n r below = rw (lt-leb top n below) refl

pub over_text : (top n : ℕ) (s r : List ℕ) → n < top → reaches top Outside n (quoted s ++ r) ≡ reaches top Outside n r
over_text top n s r below =
    enters top n ((escape s ++ 34 ∷ []) ++ r) below ∙ ap (reaches top Inside n) (append_assoc (escape s) (34 ∷ []) r) ∙ inside_text top n s (34 ∷ r) below ∙ leaves top n r below

-- ---- brackets, commas and colons

pub opens : (top n : ℕ) (r : List ℕ) → suc n < top → (reaches top Outside n (91 ∷ r) ≡ reaches top Outside (suc n) r) × (reaches top Outside n (123 ∷ r) ≡ reaches top Outside (suc n) r)
unfolding reaches
opens top n r below = (rw (lt-leb top (suc n) below) refl, rw (lt-leb top (suc n) below) refl)

pub closes : (top n : ℕ) (r : List ℕ) → n < top → (reaches top Outside (suc n) (93 ∷ r) ≡ reaches top Outside n r) × (reaches top Outside (suc n) (125 ∷ r) ≡ reaches top Outside n r)
unfolding reaches
closes top n r below = let e : suc n - 1 ≡ n = omega arith in (rw (e, lt-leb top n below) refl, rw (e, lt-leb top n below) refl)

pub parts : (top n : ℕ) (r : List ℕ) → n < top → (reaches top Outside n (44 ∷ r) ≡ reaches top Outside n r) × (reaches top Outside n (58 ∷ r) ≡ reaches top Outside n r)
unfolding reaches
parts top n r below = (rw (lt-leb top n below) refl, rw (lt-leb top n below) refl)

pub over_word : (top n : ℕ) (r : List ℕ) → n < top
    → (reaches top Outside n (110 ∷ 117 ∷ 108 ∷ 108 ∷ r) ≡ reaches top Outside n r) × (reaches top Outside n (116 ∷ 114 ∷ 117 ∷ 101 ∷ r) ≡ reaches top Outside n r)
    × (reaches top Outside n (102 ∷ 97 ∷ 108 ∷ 115 ∷ 101 ∷ r) ≡ reaches top Outside n r)
unfolding reaches
over_word top n r below = (rw (lt-leb top n below) refl, rw (lt-leb top n below) refl, rw (lt-leb top n below) refl)
