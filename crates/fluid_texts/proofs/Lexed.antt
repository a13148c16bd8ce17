-- The strings among the tokens of a text in UTF-8 are UTF-8.
use Rattle.std.proofs.Common.{◌≡◌, ℕ, ◌<◌, ◌==◌, List, [], ◌∷◌, ◌++◌, Bool, true, false, cond, Option, Some, None, IsUtf8, refl, sym, subst, arith, append_assoc}
use Rattle.std.specs.Prelude.{⊤}
use Rattle.std.proofs.lemmas.Bool.{eqb-true}
use Rattle.json.specs.Token.{Token, begin_object, end_object, begin_array, end_array, key, string, number, boolean, null, bad}
use Rattle.json.specs.Lex.{Lexeme, token, comma, colon, Class, quote, backslash, operator, space, other, class, operator_lexeme, string_token, Mode, between, in_word, in_string, in_escape, lex_byte, lex, Place, fresh, after_value, after_comma, after_key, begins_colon, may_begin, may_close, if_allowed, place_token, punctuate, tokens}
use Rattle.json.specs.Text.{content, plain}
use Rattle.json.specs.Word.{is_operator, is_space, head, ends_word, after_number, number_before, literal, word}
use Rattle.json.specs.Ascii as ascii
use Rattle.fluid_texts.proofs.Bytes.{behind}
use Rattle.fluid_texts.proofs.Strings.{OnText, content_text}

abbrev pub IsTextToken : Token → Type 0
IsTextToken begin_object = ⊤
IsTextToken end_object = ⊤
IsTextToken begin_array = ⊤
IsTextToken end_array = ⊤
IsTextToken (key s) = IsUtf8 s
IsTextToken (string s) = IsUtf8 s
IsTextToken (number s) = ⊤
IsTextToken (boolean b) = ⊤
IsTextToken null = ⊤
IsTextToken bad = ⊤

abbrev AreLexed : List Lexeme → Type 0
AreLexed [] = ⊤
AreLexed (token t ∷ ls) = IsTextToken t × AreLexed ls
AreLexed (comma ∷ ls) = AreLexed ls
AreLexed (colon ∷ ls) = AreLexed ls

abbrev pub AreTextTokens : List Token → Type 0
AreTextTokens [] = ⊤
AreTextTokens (t ∷ ts) = IsTextToken t × AreTextTokens ts

-- ---- lexemes

string_text : (o : Option (List ℕ)) → OnText [] o → IsTextToken (string_token o)
string_text None h = tt
string_text (Some s) h = h

or_bad : (b : Bool) (t : Token) → IsTextToken t → IsTextToken (cond b t bad)
or_bad true t h = h
or_bad false t h = tt

number_text : (t : List ℕ) (o : Option (List ℕ)) → IsTextToken (number_before t o)
number_text t None = tt
number_text t (Some rest) = or_bad (ends_word rest) (number _) tt

word_text : (t : List ℕ) → IsTextToken (word t)
unfolding word
word_text t = of (head t == 116) (head t == 102) (head t == 110)
  where
    of : (a b c : Bool) → IsTextToken (cond a (literal ascii.true_text (boolean true) t) (cond b (literal ascii.false_text (boolean false) t) (cond c (literal ascii.null_text null t) (number_before t (after_number t)))))
    of true b c = or_bad _ (boolean true) tt
    of false true c = or_bad _ (boolean false) tt
    of false false true = or_bad _ null tt
    of false false false = number_text t (after_number t)

operator_text : (x : ℕ) (ls : List Lexeme) → AreLexed ls → AreLexed (operator_lexeme x ∷ ls)
operator_text x ls h = of (x == 123) (x == 125) (x == 91) (x == 93) (x == 44)
  where
    of : (a b c d e : Bool) → AreLexed (cond a (token begin_object) (cond b (token end_object) (cond c (token begin_array) (cond d (token end_array) (cond e comma colon)))) ∷ ls)
    of true b c d e = (tt, h)
    of false true c d e = (tt, h)
    of false false true d e = (tt, h)
    of false false false true e = (tt, h)
    of false false false false true = h
    of false false false false false = h

quote_is : (x : ℕ) → class x ≡ quote → x < 128
quote_is x h = of (x == 34) (x == 92) (is_operator x) (is_space x) refl h
  where
    of : (q b o s : Bool) → (x == 34) ≡ q → cond q quote (cond b backslash (cond o operator (cond s space other))) ≡ quote → x < 128
    of true b o s e h = omega (arith, eqb-true x 34 e)
    of false true o s e h = cc
    of false false true s e h = cc
    of false false false true e h = cc
    of false false false false e h = cc

byte_lexed : (m : Mode) (c : Class) (x : ℕ) (xs p : List ℕ) → class x ≡ c → IsUtf8 (p ++ x ∷ xs) → ((next : Mode) → AreLexed (lex next xs)) → AreLexed (lex_byte m c x xs (λ next. lex next xs))
byte_lexed between quote x xs p is u more = (string_text (content plain xs) (content_text xs (behind p xs x (quote_is x is) u)), more in_string)
byte_lexed between backslash x xs p is u more = (tt, more in_word)
byte_lexed between operator x xs p is u more = operator_text x (lex between xs) (more between)
byte_lexed between space x xs p is u more = more between
byte_lexed between other x xs p is u more = (word_text (x ∷ xs), more in_word)
byte_lexed in_word quote x xs p is u more = more in_word
byte_lexed in_word backslash x xs p is u more = more in_word
byte_lexed in_word operator x xs p is u more = operator_text x (lex between xs) (more between)
byte_lexed in_word space x xs p is u more = more between
byte_lexed in_word other x xs p is u more = more in_word
byte_lexed in_string quote x xs p is u more = more between
byte_lexed in_string backslash x xs p is u more = more in_escape
byte_lexed in_string operator x xs p is u more = more in_string
byte_lexed in_string space x xs p is u more = more in_string
byte_lexed in_string other x xs p is u more = more in_string
byte_lexed in_escape c x xs p is u more = more in_string

lexed : (s p : List ℕ) → IsUtf8 (p ++ s) → (m : Mode) → AreLexed (lex m s)
unfolding lex
lexed [] p u m = tt
lexed (x ∷ xs) p u m = byte_lexed m (class x) x xs p refl u (lexed xs (p ++ x ∷ []) (subst IsUtf8 (sym (append_assoc p (x ∷ []) xs)) u))

-- ---- tokens

allowed : (b : Bool) (t : Token) (k : Place → List Token) (next : Place) → IsTextToken t → ((p : Place) → AreTextTokens (k p)) → AreTextTokens (if_allowed b t k next)
allowed true t k next h g = (h, g next)
allowed false t k next h g = (tt, tt)

placed : (p : Place) (t : Token) (b : Bool) (k : Place → List Token) → IsTextToken t → ((p : Place) → AreTextTokens (k p)) → AreTextTokens (place_token p t b k)
placed p begin_object b k h g = allowed (may_begin p) begin_object k fresh h g
placed p end_object b k h g = allowed (may_close p) end_object k after_value h g
placed p begin_array b k h g = allowed (may_begin p) begin_array k fresh h g
placed p end_array b k h g = allowed (may_close p) end_array k after_value h g
placed p (key s) b k h g = (tt, tt)
placed p (string s) true k h g = allowed (may_begin p) (key s) k after_key h g
placed p (string s) false k h g = allowed (may_begin p) (string s) k after_value h g
placed p (number s) b k h g = allowed (may_begin p) (number s) k after_value h g
placed p (boolean c) b k h g = allowed (may_begin p) (boolean c) k after_value h g
placed p null b k h g = allowed (may_begin p) null k after_value h g
placed p bad b k h g = (tt, tt)

punctuated : (ls : List Lexeme) → AreLexed ls → (p : Place) → AreTextTokens (punctuate p ls)
unfolding punctuate
punctuated [] h fresh = tt
punctuated [] h after_value = tt
punctuated [] h after_comma = (tt, tt)
punctuated [] h after_key = (tt, tt)
punctuated (token t ∷ ls) h fresh = placed fresh t (begins_colon ls) (λ next. punctuate next ls) h.0 (punctuated ls h.1)
punctuated (token t ∷ ls) h after_value = placed after_value t (begins_colon ls) (λ next. punctuate next ls) h.0 (punctuated ls h.1)
punctuated (token t ∷ ls) h after_comma = placed after_comma t (begins_colon ls) (λ next. punctuate next ls) h.0 (punctuated ls h.1)
punctuated (token t ∷ ls) h after_key = placed after_key t (begins_colon ls) (λ next. punctuate next ls) h.0 (punctuated ls h.1)
punctuated (comma ∷ ls) h fresh = (tt, tt)
punctuated (comma ∷ ls) h after_value = punctuated ls h after_comma
punctuated (comma ∷ ls) h after_comma = (tt, tt)
punctuated (comma ∷ ls) h after_key = (tt, tt)
punctuated (colon ∷ ls) h fresh = (tt, tt)
punctuated (colon ∷ ls) h after_value = (tt, tt)
punctuated (colon ∷ ls) h after_comma = (tt, tt)
punctuated (colon ∷ ls) h after_key = punctuated ls h fresh

pub tokens_text : (s : List ℕ) → IsUtf8 s → AreTextTokens (tokens s)
tokens_text s u = punctuated (lex between s) (lexed s [] u between) fresh
