-- What a lexer reads of a text has no more bytes than the text when it is printed.
use Rattle.std.proofs.Common.{◌≡◌, ℕ, zero, suc, ◌+◌, ◌*◌, ◌/◌, ◌%◌, ◌<◌, ◌≤◌, ◌==◌, ◌&&◌, ◌||◌, List, [], ◌∷◌, ◌++◌, length, Bool, true, false, cond, nat_lt, Option, Some, None, option_and_then, refl, ap, sym, ◌∙◌, subst, arith, append_assoc, length-append, inl, inr}
use Rattle.std.specs.Char.{encode_utf8, is_digit, digit_value, digit_char}
use Rattle.std.proofs.lemmas.Bool.{eqb-true, ne_eqb, cases_eq, ltb-true, ltb-false}
use Rattle.json.specs.Token.{Token}
use Rattle.json.specs.Print.{escape, escape_byte, escape_letter}
use Rattle.json.specs.Lex.{Lexeme, token, comma, colon, Class, quote, backslash, operator, space, other, class, operator_lexeme, string_token, between, in_word, in_string, in_escape, lex_byte, lex}
use Rattle.json.specs.Word.{is_operator, is_space}
use Rattle.json.specs.Text.{content, plain, after_backslash, after_u, after_high, prepend, short_escape, code_unit, is_high_surrogate, is_low_surrogate, surrogate_pair}
use Rattle.fluid_readback.proofs.Words.{size, run, is_word}

abbrev pub lexeme_size : Lexeme → ℕ
lexeme_size (token t) = size t
lexeme_size comma = 0
lexeme_size colon = 0

abbrev pub total : List Lexeme → ℕ
total [] = 0
total (l ∷ ls) = lexeme_size l + total ls

-- the bytes of what is left of a string, with its closing quotation mark
abbrev escaped : Option (List ℕ) → ℕ
escaped None = 0
escaped (Some s) = length (escape s) + 1

-- ---- bytes and their escapes

byte_short : (x : ℕ) → length (escape_byte x) ≤ 6
unfolding escape_byte
byte_short x = of (nat_lt 0 (escape_letter x)) (nat_lt x 32)
  where
    of : (a b : Bool) → length (cond a (92 ∷ escape_letter x ∷ []) (cond b (92 ∷ 117 ∷ 48 ∷ 48 ∷ digit_char (x / 16) ∷ digit_char (x % 16) ∷ []) (x ∷ []))) ≤ 6
    of true b = omega arith
    of false true = omega arith
    of false false = omega arith

pub escape_short : (s : List ℕ) → length (escape s) ≤ 6 * length s
escape_short [] = omega arith
escape_short (x ∷ s) = omega (arith, length-append (escape_byte x) (escape s), byte_short x, escape_short s)

byte_plain : (x : ℕ) → (x ≡ 34 → ⊥) → (x ≡ 92 → ⊥) → 32 ≤ x → length (escape_byte x) ≤ 1
unfolding escape_byte
byte_plain x q b h = grind (arith)

short_escaped : (x c : ℕ) → short_escape x ≡ Some c → length (escape_byte c) ≤ 2
unfolding short_escape escape_byte
short_escaped x c h = of (x == 34) (x == 92) (x == 47) (x == 98) (x == 102) (x == 110) (x == 114) (x == 116) refl refl refl h
  where
    is : (n : ℕ) → n ≡ c → length (escape_byte n) ≤ 2 → length (escape_byte c) ≤ 2
    is n e k = subst (λ y. length (escape_byte y) ≤ 2) e k

    same : (n : ℕ) → Some n ≡ Some c → n ≡ c
    same n h = cc

    itself : (n : ℕ) → (x == n) ≡ true → Some x ≡ Some c → n ≡ c
    itself n e h = sym (eqb-true x n e) ∙ same x h

    of : (q b s bb bf bn br bt : Bool) → (x == 34) ≡ q → (x == 92) ≡ b → (x == 47) ≡ s
        → cond (q || b || s) (Some x) (cond bb (Some 8) (cond bf (Some 12) (cond bn (Some 10) (cond br (Some 13) (cond bt (Some 9) None))))) ≡ Some c → length (escape_byte c) ≤ 2
    of true b s bb bf bn br bt e f g h = is 34 (itself 34 e h) (omega arith)
    of false true s bb bf bn br bt e f g h = is 92 (itself 92 f h) (omega arith)
    of false false true bb bf bn br bt e f g h = is 47 (itself 47 g h) (omega arith)
    of false false false true bf bn br bt e f g h = is 8 (same 8 h) (omega arith)
    of false false false false true bn br bt e f g h = is 12 (same 12 h) (omega arith)
    of false false false false false true br bt e f g h = is 10 (same 10 h) (omega arith)
    of false false false false false false true bt e f g h = is 13 (same 13 h) (omega arith)
    of false false false false false false false true e f g h = is 9 (same 9 h) (omega arith)
    of false false false false false false false false e f g h = cc

abbrev AreHigh : List ℕ → Type 0
AreHigh [] = Unit {0}
AreHigh (x ∷ xs) = (128 ≤ x) × AreHigh xs

high_short : (xs : List ℕ) → AreHigh xs → length (escape xs) ≤ length xs
high_short [] h = omega arith
high_short (x ∷ xs) h = omega (arith, length-append (escape_byte x) (escape xs), byte_plain x (λ e. omega (arith, h.0)) (λ e. omega (arith, h.0)) (omega (arith, h.0)), high_short xs h.1)

char_short : (c : ℕ) → length (escape (encode_utf8 c)) ≤ 6
unfolding encode_utf8
char_short c = of (nat_lt c 128) (nat_lt c 2048) (nat_lt c 65536)
  where
    next : ℕ → ℕ
    next n = 128 + n % 64

    of : (p q r : Bool) → length (escape (cond p (c ∷ []) (cond q ((192 + c / 64) ∷ next c ∷ []) (cond r ((224 + c / 4096) ∷ next (c / 64) ∷ next c ∷ []) ((240 + c / 262144) ∷ next (c / 4096) ∷ next (c / 64) ∷ next c ∷ []))))) ≤ 6
    of true q r = omega (arith, length-append (escape_byte c) [], byte_short c)
    of false true r = omega (arith, high_short ((192 + c / 64) ∷ next c ∷ []) (omega arith, (omega arith, tt)))
    of false false true = omega (arith, high_short ((224 + c / 4096) ∷ next (c / 64) ∷ next c ∷ []) (omega arith, (omega arith, (omega arith, tt))))
    of false false false = omega (arith, high_short ((240 + c / 262144) ∷ next (c / 4096) ∷ next (c / 64) ∷ next c ∷ []) (omega arith, (omega arith, (omega arith, (omega arith, tt)))))

escape-append : (xs ys : List ℕ) → escape (xs ++ ys) ≡ escape xs ++ escape ys
escape-append [] ys = refl
escape-append (x ∷ xs) ys = ap (λ l. escape_byte x ++ l) (escape-append xs ys) ∙ sym (append_assoc (escape_byte x) (escape xs) (escape ys))

prepended : (bytes : List ℕ) (o : Option (List ℕ)) → escaped (prepend bytes o) ≤ length (escape bytes) + escaped o
prepended bytes None = omega arith
prepended bytes (Some s) = omega (arith, ap length (escape-append bytes s), length-append (escape bytes) (escape s))

-- ---- what is read of a text that begins within a word, a string or an escape

record Read (s : List ℕ) : Type 0 where
  pub outside : total (lex between s) ≤ length s
  pub inside_word : total (lex in_word s) + run s ≤ length s
  pub inside_string : escaped (content plain s) + total (lex in_string s) ≤ length s
  pub inside_escape : escaped (content after_backslash s) + total (lex in_escape s) ≤ 1 + length s
  pub behind_u : escaped (content after_u s) + total (lex in_string s) ≤ 2 + length s
  pub behind_high : (h : ℕ) → escaped (content (after_high h) s) + total (lex in_string s) ≤ 6 + length s

nothing : Read []
unfolding lex content
nothing = record {
  outside = omega arith;
  inside_word = omega arith;
  inside_string = omega arith;
  inside_escape = omega arith;
  behind_u = omega arith;
  behind_high = λ h. omega arith;
}

operator_size : (x : ℕ) → lexeme_size (operator_lexeme x) ≤ 1
operator_size x = of (x == 123) (x == 125) (x == 91) (x == 93) (x == 44)
  where
    of : (a b c d e : Bool) → lexeme_size (cond a (token Token.begin_object) (cond b (token Token.end_object) (cond c (token Token.begin_array) (cond d (token Token.end_array) (cond e comma colon))))) ≤ 1
    of true b c d e = omega arith
    of false true c d e = omega arith
    of false false true d e = omega arith
    of false false false true e = omega arith
    of false false false false true = omega arith
    of false false false false false = omega arith

string_size : (o : Option (List ℕ)) → size (string_token o) ≤ 1 + escaped o
string_size None = omega arith
string_size (Some s) = omega (arith, length-append (escape s) (34 ∷ []))

outside_step : (x : ℕ) (xs : List ℕ) → Read xs → (c : Class) → class x ≡ c → total (lex_byte between c x xs (λ next. lex next xs)) ≤ 1 + length xs
outside_step x xs h quote e = omega (arith, string_size (content plain xs), h.inside_string)
outside_step x xs h backslash e = omega (arith, h.inside_word)
outside_step x xs h operator e = omega (arith, operator_size x, h.outside)
outside_step x xs h space e = omega (arith, h.outside)
outside_step x xs h other e =
    let counted : run (x ∷ xs) ≡ suc (run xs) = rw e refl in
    omega (arith, (is_word (x ∷ xs)).short, counted, h.inside_word)

word_step : (x : ℕ) (xs : List ℕ) → Read xs → (c : Class) → class x ≡ c → total (lex_byte in_word c x xs (λ next. lex next xs)) + run (x ∷ xs) ≤ 1 + length xs
word_step x xs h quote e = rw e (omega (arith, h.inside_word))
word_step x xs h backslash e = rw e (omega (arith, h.inside_word))
word_step x xs h operator e = rw e (omega (arith, operator_size x, h.outside))
word_step x xs h space e = rw e (omega (arith, h.outside))
word_step x xs h other e = rw e (omega (arith, h.inside_word))

-- a byte that is no quotation mark and no backslash is passed in a string
passes : (x : ℕ) (xs : List ℕ) → (x ≡ 34 → ⊥) → (x ≡ 92 → ⊥) → lex in_string (x ∷ xs) ≡ lex in_string xs
unfolding lex
passes x xs q b = rw (ne_eqb x 34 q, ne_eqb x 92 b) (of (is_operator x) (is_space x))
  where
    of : (o s : Bool) → lex_byte in_string (cond o operator (cond s space other)) x xs (λ next. lex next xs) ≡ lex in_string xs
    of true s = refl
    of false true = refl
    of false false = refl

quote_step : (xs : List ℕ) → Read xs → escaped (content plain (34 ∷ xs)) + total (lex in_string (34 ∷ xs)) ≤ 1 + length xs
unfolding content lex
quote_step xs h = omega (arith, h.outside)

backslash_step : (xs : List ℕ) → Read xs → escaped (content plain (92 ∷ xs)) + total (lex in_string (92 ∷ xs)) ≤ 1 + length xs
unfolding content lex
backslash_step xs h = omega (arith, h.inside_escape)

plain_step : (x : ℕ) (xs : List ℕ) → Read xs → (x ≡ 34 → ⊥) → (x ≡ 92 → ⊥) → (c : Bool) → nat_lt x 32 ≡ c → escaped (cond c None (prepend (x ∷ []) (content plain xs))) + total (lex in_string xs) ≤ 1 + length xs
plain_step x xs h q b true e = omega (arith, h.inside_string)
plain_step x xs h q b false e =
    omega (arith, h.inside_string, prepended (x ∷ []) (content plain xs), length-append (escape_byte x) [], byte_plain x q b (ltb-false x 32 e))

other_step : (x : ℕ) (xs : List ℕ) → Read xs → (x ≡ 34 → ⊥) → (x ≡ 92 → ⊥) → escaped (content plain (x ∷ xs)) + total (lex in_string (x ∷ xs)) ≤ 1 + length xs
unfolding content
other_step x xs h q b = rw (passes x xs q b, ne_eqb x 34 q, ne_eqb x 92 b) (plain_step x xs h q b (nat_lt x 32) refl)

string_step : (x : ℕ) (xs : List ℕ) → Read xs → escaped (content plain (x ∷ xs)) + total (lex in_string (x ∷ xs)) ≤ 1 + length xs
string_step x xs h = elim (cases_eq x 34) [
  | inl q ↦ rw q (quote_step xs h)
  | inr q ↦ elim (cases_eq x 92) [
    | inl b ↦ rw b (backslash_step xs h)
    | inr b ↦ other_step x xs h q b
  ]
]

-- ---- escapes

-- one byte behind a backslash is passed
in_escape_passes : (x : ℕ) (xs : List ℕ) → lex in_escape (x ∷ xs) ≡ lex in_string xs
unfolding lex
in_escape_passes x xs = refl

escaped_then : (o : Option ℕ) (k : ℕ → Option (List ℕ)) (n : ℕ) → ((c : ℕ) → o ≡ Some c → escaped (k c) ≤ n) → escaped (option_and_then k o) ≤ n
escaped_then None k n h = omega arith
escaped_then (Some c) k n h = h c refl

escape_step : (x : ℕ) (xs : List ℕ) → Read xs → escaped (content after_backslash (x ∷ xs)) + total (lex in_escape (x ∷ xs)) ≤ 1 + (1 + length xs)
unfolding content
escape_step x xs h = rw (in_escape_passes x xs) (of (x == 117))
  where
    of : (b : Bool) → escaped (cond b (content after_u xs) (option_and_then (λ c. prepend (c ∷ []) (content plain xs)) (short_escape x))) + total (lex in_string xs) ≤ 1 + (1 + length xs)
    of true = omega (arith, h.behind_u)
    of false =
        omega (
          arith,
          h.inside_string,
          escaped_then (short_escape x) (λ c. prepend (c ∷ []) (content plain xs)) (2 + escaped (content plain xs))
              (λ c e. omega (arith, prepended (c ∷ []) (content plain xs), length-append (escape_byte c) [], short_escaped x c e)),
        )

-- a hexadecimal digit is passed in a string
digit_passes : (a : ℕ) (xs : List ℕ) → is_digit a 16 ≡ true → lex in_string (a ∷ xs) ≡ lex in_string xs
digit_passes a xs h =
    let small : digit_value a < 16 = ltb-true (digit_value a) 16 h in
    passes a xs (λ e. let k : digit_value 34 < 16 = subst (λ y. digit_value y < 16) e small in omega arith) (λ e. let k : digit_value 92 < 16 = subst (λ y. digit_value y < 16) e small in omega arith)

record Four (a b c d : ℕ) : Type 0 where
  pub first : is_digit a 16 ≡ true
  pub second : is_digit b 16 ≡ true
  pub third : is_digit c 16 ≡ true
  pub fourth : is_digit d 16 ≡ true

four_digits : (a b c d u : ℕ) → code_unit a b c d ≡ Some u → Four a b c d
unfolding code_unit
four_digits a b c d u h = of (is_digit a 16) (is_digit b 16) (is_digit c 16) (is_digit d 16) refl refl refl refl h
  where
    of : (p q r s : Bool) → is_digit a 16 ≡ p → is_digit b 16 ≡ q → is_digit c 16 ≡ r → is_digit d 16 ≡ s
        → cond (p && q && r && s) (Some (digit_value a * 4096 + digit_value b * 256 + digit_value c * 16 + digit_value d)) None ≡ Some u → Four a b c d
    of true true true true e f g k h = record { first = e; second = f; third = g; fourth = k }
    of p q r s e f g k h = cc

four_pass : (a b c d : ℕ) (xs : List ℕ) → Four a b c d → lex in_string (a ∷ b ∷ c ∷ d ∷ xs) ≡ lex in_string xs
four_pass a b c d xs h =
    digit_passes a (b ∷ c ∷ d ∷ xs) h.first ∙ digit_passes b (c ∷ d ∷ xs) h.second ∙ digit_passes c (d ∷ xs) h.third ∙ digit_passes d xs h.fourth

-- what is read of a text that holds this one behind a few bytes
u_step : (a b c d : ℕ) (xs : List ℕ) → Read xs → total (lex in_string (a ∷ b ∷ c ∷ d ∷ xs)) ≤ 4 + length xs
    → escaped (content after_u (a ∷ b ∷ c ∷ d ∷ xs)) + total (lex in_string (a ∷ b ∷ c ∷ d ∷ xs)) ≤ 2 + (4 + length xs)
unfolding content
u_step a b c d xs h weak = of (code_unit a b c d) refl
  where
    by_half : (u : ℕ) (high low : Bool) → escaped (cond high (content (after_high u) xs) (cond low None (prepend (encode_utf8 u) (content plain xs)))) + total (lex in_string xs) ≤ 2 + (4 + length xs)
    by_half u true low = omega (arith, h.behind_high u)
    by_half u false true = omega (arith, h.inside_string)
    by_half u false false = omega (arith, h.inside_string, prepended (encode_utf8 u) (content plain xs), char_short u)

    of : (o : Option ℕ) → code_unit a b c d ≡ o
        → escaped (option_and_then (λ u. cond (is_high_surrogate u) (content (after_high u) xs) (cond (is_low_surrogate u) None (prepend (encode_utf8 u) (content plain xs)))) o) + total (lex in_string (a ∷ b ∷ c ∷ d ∷ xs)) ≤ 2 + (4 + length xs)
    of None e = omega (arith, weak)
    of (Some u) e = rw (four_pass a b c d xs (four_digits a b c d u e)) (by_half u (is_high_surrogate u) (is_low_surrogate u))

pair_passes : (s u : ℕ) (xs : List ℕ) → s ≡ 92 → lex in_string (s ∷ u ∷ xs) ≡ lex in_string xs
unfolding lex
pair_passes s u xs e = rw e refl

high_step : (high s u a b c d : ℕ) (xs : List ℕ) → Read xs → total (lex in_string (s ∷ u ∷ a ∷ b ∷ c ∷ d ∷ xs)) ≤ 6 + length xs
    → escaped (content (after_high high) (s ∷ u ∷ a ∷ b ∷ c ∷ d ∷ xs)) + total (lex in_string (s ∷ u ∷ a ∷ b ∷ c ∷ d ∷ xs)) ≤ 6 + (6 + length xs)
unfolding content
high_step high s u a b c d xs h weak = by_word (s == 92) (u == 117) refl
  where
    by_low : (l : ℕ) (low : Bool) → escaped (cond low (prepend (encode_utf8 (surrogate_pair high l)) (content plain xs)) None) + total (lex in_string xs) ≤ 6 + (6 + length xs)
    by_low l true = omega (arith, h.inside_string, prepended (encode_utf8 (surrogate_pair high l)) (content plain xs), char_short (surrogate_pair high l))
    by_low l false = omega (arith, h.inside_string)

    by_unit : s ≡ 92 → (o : Option ℕ) → code_unit a b c d ≡ o
        → escaped (option_and_then (λ l. cond (is_low_surrogate l) (prepend (encode_utf8 (surrogate_pair high l)) (content plain xs)) None) o) + total (lex in_string (s ∷ u ∷ a ∷ b ∷ c ∷ d ∷ xs)) ≤ 6 + (6 + length xs)
    by_unit is None e = omega (arith, weak)
    by_unit is (Some l) e =
        rw (pair_passes s u (a ∷ b ∷ c ∷ d ∷ xs) is, four_pass a b c d xs (four_digits a b c d l e)) (by_low l (is_low_surrogate l))

    by_word : (p q : Bool) → (s == 92) ≡ p
        → escaped (cond (p && q) (option_and_then (λ l. cond (is_low_surrogate l) (prepend (encode_utf8 (surrogate_pair high l)) (content plain xs)) None) (code_unit a b c d)) None) + total (lex in_string (s ∷ u ∷ a ∷ b ∷ c ∷ d ∷ xs)) ≤ 6 + (6 + length xs)
    by_word true true e = by_unit (eqb-true s 92 e) (code_unit a b c d) refl
    by_word true false e = omega (arith, weak)
    by_word false q e = omega (arith, weak)

-- ---- any text

-- what is read of each shorter text
abbrev Shorter : ℕ → Type 0
Shorter n = (s : List ℕ) → length s ≤ n → Read s

after_u_step : (n : ℕ) → Shorter n → (s : List ℕ) → length s ≤ suc n → total (lex in_string s) ≤ length s → escaped (content after_u s) + total (lex in_string s) ≤ 2 + length s
unfolding content
after_u_step n h [] short weak = omega (arith, weak)
after_u_step n h (a ∷ []) short weak = omega (arith, weak)
after_u_step n h (a ∷ b ∷ []) short weak = omega (arith, weak)
after_u_step n h (a ∷ b ∷ c ∷ []) short weak = omega (arith, weak)
after_u_step n h (a ∷ b ∷ c ∷ d ∷ xs) short weak = omega (arith, u_step a b c d xs (h xs (omega arith)) (omega (arith, weak)))

after_high_step : (n : ℕ) → Shorter n → (high : ℕ) (s : List ℕ) → length s ≤ suc n → total (lex in_string s) ≤ length s → escaped (content (after_high high) s) + total (lex in_string s) ≤ 6 + length s
unfolding content
after_high_step n h high [] short weak = omega (arith, weak)
after_high_step n h high (a ∷ []) short weak = omega (arith, weak)
after_high_step n h high (a ∷ b ∷ []) short weak = omega (arith, weak)
after_high_step n h high (a ∷ b ∷ c ∷ []) short weak = omega (arith, weak)
after_high_step n h high (a ∷ b ∷ c ∷ d ∷ []) short weak = omega (arith, weak)
after_high_step n h high (a ∷ b ∷ c ∷ d ∷ e ∷ []) short weak = omega (arith, weak)
after_high_step n h high (s ∷ u ∷ a ∷ b ∷ c ∷ d ∷ xs) short weak = omega (arith, high_step high s u a b c d xs (h xs (omega arith)) (omega (arith, weak)))

outside_of : (x : ℕ) (xs : List ℕ) → Read xs → total (lex between (x ∷ xs)) ≤ 1 + length xs
unfolding lex
outside_of x xs r = outside_step x xs r (class x) refl

word_of : (x : ℕ) (xs : List ℕ) → Read xs → total (lex in_word (x ∷ xs)) + run (x ∷ xs) ≤ 1 + length xs
unfolding lex
word_of x xs r = word_step x xs r (class x) refl

step : (n : ℕ) → Shorter n → (x : ℕ) (xs : List ℕ) → length xs ≤ n → Read (x ∷ xs)
step n h x xs short =
    let rest = h xs short in
    let string = string_step x xs rest in
    let weak : total (lex in_string (x ∷ xs)) ≤ length (x ∷ xs) = omega (arith, string) in
    record {
      outside = omega (arith, outside_of x xs rest);
      inside_word = omega (arith, word_of x xs rest);
      inside_string = omega (arith, string);
      inside_escape = omega (arith, escape_step x xs rest);
      behind_u = after_u_step n h (x ∷ xs) (omega arith) weak;
      behind_high = λ high. after_high_step n h high (x ∷ xs) (omega arith) weak;
    }

all_read : (n : ℕ) → Shorter n
all_read zero [] h = nothing
all_read zero (x ∷ xs) h = absurd (omega arith)
all_read (suc n) [] h = nothing
all_read (suc n) (x ∷ xs) h = step n (all_read n) x xs (omega arith)

pub lexed_short : (s : List ℕ) → total (lex between s) ≤ length s
lexed_short s = (all_read (length s) s (omega arith)).outside
