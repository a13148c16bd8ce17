-- Brackets outside strings are the brackets that a lexer reads, so its tokens are nested no deeper than the walk over the text says.
use Rattle.std.proofs.Common.{◌≡◌, ℕ, suc, ◌-◌, ◌==◌, ◌||◌, List, [], ◌∷◌, Bool, true, false, cond, nat_le, Option, Some, None, refl, subst, arith}
use Rattle.std.specs.Prelude.{⊤}
use Rattle.std.proofs.lemmas.Bool.{or_parts, eqb-true}
use Rattle.json.specs.Token.{Token, begin_object, end_object, begin_array, end_array, key, string, number, boolean, null, bad}
use Rattle.json.specs.Lex.{Lexeme, token, comma, colon, Class, quote, backslash, operator, space, other, class, operator_lexeme, string_token, Mode, between, in_word, in_string, in_escape, lex_byte, lex}
use Rattle.json.specs.Word.{word}
use Rattle.json.specs.Text.{content, plain}
use Rattle.fluid_json.specs.declared.nesting.Place.{Place}
use Rattle.fluid_json.specs.declared.nesting.Place.TheVariants.{Outside, Inside, Escaped}
use Rattle.fluid_json.specs.Spelled.{place_after, depth_after, reaches}
use Rattle.fluid_readback.proofs.Words.{clean, clean_at, IsWord, is_word}

-- whether the depth reaches `top` at this token or, by k, behind it; nothing is read behind a bad token
abbrev pub token_reaches : ℕ → ℕ → Token → (ℕ → Bool) → Bool
token_reaches top d begin_object k = nat_le top (suc d) || k (suc d)
token_reaches top d end_object k = k (d - 1)
token_reaches top d begin_array k = nat_le top (suc d) || k (suc d)
token_reaches top d end_array k = k (d - 1)
token_reaches top d (key s) k = k d
token_reaches top d (string s) k = k d
token_reaches top d (number s) k = k d
token_reaches top d (boolean b) k = k d
token_reaches top d null k = k d
token_reaches top d bad k = false

abbrev pub lexemes_reach : ℕ → ℕ → List Lexeme → Bool
lexemes_reach top d [] = false
lexemes_reach top d (token t ∷ ls) = token_reaches top d t (λ e. lexemes_reach top e ls)
lexemes_reach top d (comma ∷ ls) = lexemes_reach top d ls
lexemes_reach top d (colon ∷ ls) = lexemes_reach top d ls

-- where the walk stands while the lexer is in this mode
abbrev place : Mode → Place
place between = Outside
place in_word = Outside
place in_string = Inside
place in_escape = Escaped

-- within a word, the word is whole
abbrev IsReady : Mode → List ℕ → Type 0
IsReady between s = ⊤
IsReady in_word s = clean s ≡ true
IsReady in_string s = ⊤
IsReady in_escape s = ⊤

abbrev Shallow : ℕ → List ℕ → Type 0
Shallow top s = (m : Mode) (d : ℕ) → IsReady m s → reaches top (place m) d s ≡ false → lexemes_reach top d (lex m s) ≡ false

-- one byte of the walk
walked : (top : ℕ) (p : Place) (d x : ℕ) (xs : List ℕ) → reaches top p d (x ∷ xs) ≡ false
    → (nat_le top (depth_after p d x) ≡ false) × (reaches top (place_after p x) (depth_after p d x) xs ≡ false)
unfolding reaches
walked top p d x xs h = or_parts (nat_le top (depth_after p d x)) (reaches top (place_after p x) (depth_after p d x) xs) h

or_false : (a b : Bool) → a ≡ false → b ≡ false → (a || b) ≡ false
or_false a b h k = rw (h, k) refl

-- ---- a byte by its class

record Quiet (x d : ℕ) : Type 0 where
  pub outside : place_after Outside x ≡ Outside
  pub depth : depth_after Outside d x ≡ d
  pub inside : place_after Inside x ≡ Inside

quiet_space : (x d : ℕ) → class x ≡ space → Quiet x d
quiet_space x d h = record { outside = grind (arith); depth = grind (arith); inside = grind (arith) }

quiet_other : (x d : ℕ) → class x ≡ other → Quiet x d
quiet_other x d h = record { outside = grind (arith); depth = grind (arith); inside = grind (arith) }

is_quote : (x : ℕ) → class x ≡ quote → x ≡ 34
is_quote x h = grind (arith)

is_backslash : (x : ℕ) → class x ≡ backslash → x ≡ 92
is_backslash x h = grind (arith)

operator_place : (x : ℕ) → class x ≡ operator → (place_after Outside x ≡ Outside) × (place_after Inside x ≡ Inside)
operator_place x h = (grind (arith), grind (arith))

operator_reaches : (top d x : ℕ) (ls : List Lexeme) → class x ≡ operator → nat_le top (depth_after Outside d x) ≡ false → lexemes_reach top (depth_after Outside d x) ls ≡ false
    → lexemes_reach top d (operator_lexeme x ∷ ls) ≡ false
operator_reaches top d x ls c h k = of (x == 123) (x == 125) (x == 91) (x == 93) (x == 44) refl refl refl refl refl
  where
    at : (n : ℕ) → (x == n) ≡ true → (nat_le top (depth_after Outside d n) ≡ false) × (lexemes_reach top (depth_after Outside d n) ls ≡ false)
    at n e = (subst (λ y. nat_le top (depth_after Outside d y) ≡ false) (eqb-true x n e) h, subst (λ y. lexemes_reach top (depth_after Outside d y) ls ≡ false) (eqb-true x n e) k)

    of : (a b c d' e : Bool) → (x == 123) ≡ a → (x == 125) ≡ b → (x == 91) ≡ c → (x == 93) ≡ d' → (x == 44) ≡ e
        → lexemes_reach top d (cond a (token begin_object) (cond b (token end_object) (cond c (token begin_array) (cond d' (token end_array) (cond e comma colon)))) ∷ ls) ≡ false
    of true b c d' e p q r s t = let f = at 123 p in or_false _ _ f.0 f.1
    of false true c d' e p q r s t = (at 125 q).1
    of false false true d' e p q r s t = let f = at 91 r in or_false _ _ f.0 f.1
    of false false false true e p q r s t = (at 93 s).1
    of false false false false true p q r s t = (at 44 t).1
    of false false false false false p q r s t = let f : depth_after Outside d x ≡ d = rw (r, p, s, q) refl in subst (λ n. lexemes_reach top n ls ≡ false) f k

-- ---- any text

at_byte : (top : ℕ) (p : Place) (d x n : ℕ) (xs : List ℕ) → x ≡ n → reaches top p d (x ∷ xs) ≡ false
    → (nat_le top (depth_after p d n) ≡ false) × (reaches top (place_after p n) (depth_after p d n) xs ≡ false)
at_byte top p d x n xs e h = walked top p d n xs (subst (λ y. reaches top p d (y ∷ xs) ≡ false) e h)

behind_operator : (top d x : ℕ) (xs : List ℕ) → Shallow top xs → class x ≡ operator → reaches top Outside d (x ∷ xs) ≡ false → lexemes_reach top d (operator_lexeme x ∷ lex between xs) ≡ false
behind_operator top d x xs ih c h =
    let w = walked top Outside d x xs h in
    operator_reaches top d x (lex between xs) c w.0 (ih between (depth_after Outside d x) tt (subst (λ p. reaches top p (depth_after Outside d x) xs ≡ false) (operator_place x c).0 w.1))

behind_quiet : (top d x : ℕ) (xs : List ℕ) → Quiet x d → reaches top Outside d (x ∷ xs) ≡ false → reaches top Outside d xs ≡ false
behind_quiet top d x xs q h =
    let w = walked top Outside d x xs h in
    subst (λ n. reaches top Outside n xs ≡ false) q.depth (subst (λ p. reaches top p (depth_after Outside d x) xs ≡ false) q.outside w.1)

behind_string : (top d : ℕ) (o : Option (List ℕ)) (ls : List Lexeme) → lexemes_reach top d ls ≡ false → lexemes_reach top d (token (string_token o) ∷ ls) ≡ false
behind_string top d None ls h = refl
behind_string top d (Some s) ls h = h

behind_word : (top d : ℕ) (t : List ℕ) (w : Token) (ls : List Lexeme) → IsWord t w → (clean t ≡ true → lexemes_reach top d ls ≡ false) → lexemes_reach top d (token w ∷ ls) ≡ false
behind_word top d t begin_object ls is h = absurd is.kind
behind_word top d t end_object ls is h = absurd is.kind
behind_word top d t begin_array ls is h = absurd is.kind
behind_word top d t end_array ls is h = absurd is.kind
behind_word top d t (key s) ls is h = absurd is.kind
behind_word top d t (string s) ls is h = absurd is.kind
behind_word top d t (number s) ls is h = h (is.whole refl)
behind_word top d t (boolean b) ls is h = h (is.whole refl)
behind_word top d t null ls is h = h (is.whole refl)
behind_word top d t bad ls is h = refl

still_clean : (x : ℕ) (xs : List ℕ) → class x ≡ other → clean (x ∷ xs) ≡ true → clean xs ≡ true
still_clean x xs e h = subst (λ c. clean_at c (clean xs) ≡ true) e h

never_clean : {A : Type 0} (x : ℕ) (xs : List ℕ) (c : Class) → class x ≡ c → clean_at c (clean xs) ≡ false → clean (x ∷ xs) ≡ true → A
never_clean x xs c e unclean h = let k : clean_at c (clean xs) ≡ true = subst (λ k. clean_at k (clean xs) ≡ true) e h in cc

stays_inside : (top d x : ℕ) (xs : List ℕ) → place_after Inside x ≡ Inside → reaches top Inside d (x ∷ xs) ≡ false → reaches top Inside d xs ≡ false
stays_inside top d x xs e h = subst (λ p. reaches top p d xs ≡ false) e (walked top Inside d x xs h).1

step : (top x : ℕ) (xs : List ℕ) → Shallow top xs → (m : Mode) (c : Class) → class x ≡ c → (d : ℕ) → IsReady m (x ∷ xs) → reaches top (place m) d (x ∷ xs) ≡ false
    → lexemes_reach top d (lex_byte m c x xs (λ next. lex next xs)) ≡ false
step top x xs ih between quote e d ready h = behind_string top d (content plain xs) (lex in_string xs) (ih in_string d tt (at_byte top Outside d x 34 xs (is_quote x e) h).1)
step top x xs ih between backslash e d ready h = refl
step top x xs ih between operator e d ready h = behind_operator top d x xs ih e h
step top x xs ih between space e d ready h = ih between d tt (behind_quiet top d x xs (quiet_space x d e) h)
step top x xs ih between other e d ready h =
    behind_word top d (x ∷ xs) (word (x ∷ xs)) (lex in_word xs) (is_word (x ∷ xs)) (λ whole. ih in_word d (still_clean x xs e whole) (behind_quiet top d x xs (quiet_other x d e) h))
step top x xs ih in_word quote e d ready h = never_clean x xs quote e refl ready
step top x xs ih in_word backslash e d ready h = never_clean x xs backslash e refl ready
step top x xs ih in_word operator e d ready h = behind_operator top d x xs ih e h
step top x xs ih in_word space e d ready h = ih between d tt (behind_quiet top d x xs (quiet_space x d e) h)
step top x xs ih in_word other e d ready h = ih in_word d (still_clean x xs e ready) (behind_quiet top d x xs (quiet_other x d e) h)
step top x xs ih in_string quote e d ready h = ih between d tt (at_byte top Inside d x 34 xs (is_quote x e) h).1
step top x xs ih in_string backslash e d ready h = ih in_escape d tt (at_byte top Inside d x 92 xs (is_backslash x e) h).1
step top x xs ih in_string operator e d ready h = ih in_string d tt (stays_inside top d x xs (operator_place x e).1 h)
step top x xs ih in_string space e d ready h = ih in_string d tt (stays_inside top d x xs (quiet_space x d e).inside h)
step top x xs ih in_string other e d ready h = ih in_string d tt (stays_inside top d x xs (quiet_other x d e).inside h)
step top x xs ih in_escape c e d ready h = ih in_string d tt (walked top Escaped d x xs h).1

shallow : (top : ℕ) (s : List ℕ) → Shallow top s
unfolding lex
shallow top [] m d ready h = refl
shallow top (x ∷ xs) m d ready h = step top x xs (shallow top xs) m (class x) refl d ready h

pub lexed_shallow : (top : ℕ) (s : List ℕ) → reaches top Outside 0 s ≡ false → lexemes_reach top 0 (lex between s) ≡ false
lexed_shallow top s h = shallow top s between 0 tt h
