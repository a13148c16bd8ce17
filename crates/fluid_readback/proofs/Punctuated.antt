-- Commas and colons only leave lexemes out.
use Rattle.std.proofs.Common.{◌≡◌, ℕ, ◌+◌, ◌-◌, ◌≤◌, ◌||◌, suc, List, [], ◌∷◌, length, Bool, true, false, refl, ◌∙◌, arith}
use Rattle.std.proofs.lemmas.Bool.{or_parts}
use Rattle.json.specs.Token.{Token, begin_object, end_object, begin_array, end_array, key, string, number, boolean, null, bad}
use Rattle.json.specs.Lex.{Lexeme, token, comma, colon, between, lex, Place, fresh, after_value, after_comma, after_key, begins_colon, may_begin, may_close, if_allowed, place_token, punctuate, tokens}
use Rattle.fluid_json.specs.Spelled.{reaches}
use Rattle.fluid_json.specs.declared.nesting.Place.TheVariants.{Outside}
use Rattle.fluid_readback.proofs.Words.{size}
use Rattle.fluid_readback.proofs.Lexing.{total, lexed_short}
use Rattle.fluid_readback.proofs.Nesting.{token_reaches, lexemes_reach, lexed_shallow}

abbrev pub tokens_size : List Token → ℕ
tokens_size [] = 0
tokens_size (t ∷ ts) = size t + tokens_size ts

abbrev pub tokens_reach : ℕ → ℕ → List Token → Bool
tokens_reach top d [] = false
tokens_reach top d (t ∷ ts) = token_reaches top d t (λ e. tokens_reach top e ts)

record Follows (ls : List Lexeme) (ts : List Token) : Type 0 where
  pub short : tokens_size ts ≤ total ls
  pub shallow : (top d : ℕ) → lexemes_reach top d ls ≡ false → tokens_reach top d ts ≡ false

or_carried : (a b c : Bool) → (b ≡ false → c ≡ false) → (a || b) ≡ false → (a || c) ≡ false
or_carried a b c k h = let parts = or_parts a b h in rw (parts.0, k parts.1) refl

carried : (top d : ℕ) (t : Token) (f g : ℕ → Bool) → ((e : ℕ) → f e ≡ false → g e ≡ false) → token_reaches top d t f ≡ false → token_reaches top d t g ≡ false
carried top d begin_object f g k h = or_carried _ _ _ (k (suc d)) h
carried top d end_object f g k h = k (d - 1) h
carried top d begin_array f g k h = or_carried _ _ _ (k (suc d)) h
carried top d end_array f g k h = k (d - 1) h
carried top d (key s) f g k h = k d h
carried top d (string s) f g k h = k d h
carried top d (number s) f g k h = k d h
carried top d (boolean b) f g k h = k d h
carried top d null f g k h = k d h
carried top d bad f g k h = refl

bad_follows : (ls : List Lexeme) → Follows ls (bad ∷ [])
bad_follows ls = record { short = omega arith; shallow = λ top d h. refl }

allowed : (b : Bool) (t u : Token) (ls : List Lexeme) (k : Place → List Token) (next : Place) → ((p : Place) → Follows ls (k p)) → size u ≡ size t
    → ((top d : ℕ) (f : ℕ → Bool) → token_reaches top d u f ≡ token_reaches top d t f) → Follows (token t ∷ ls) (if_allowed b u k next)
allowed true t u ls k next h same reach = record {
  short = omega (arith, same, (h next).short);
  shallow = λ top d r. reach top d (λ e. tokens_reach top e (k next)) ∙ carried top d t (λ e. lexemes_reach top e ls) (λ e. tokens_reach top e (k next)) (λ e. (h next).shallow top e) r;
}
allowed false t u ls k next h same reach = bad_follows (token t ∷ ls)

placed : (p : Place) (t : Token) (b : Bool) (ls : List Lexeme) (k : Place → List Token) → ((p : Place) → Follows ls (k p)) → Follows (token t ∷ ls) (place_token p t b k)
placed p begin_object b ls k h = allowed (may_begin p) begin_object begin_object ls k fresh h refl (λ top d f. refl)
placed p end_object b ls k h = allowed (may_close p) end_object end_object ls k after_value h refl (λ top d f. refl)
placed p begin_array b ls k h = allowed (may_begin p) begin_array begin_array ls k fresh h refl (λ top d f. refl)
placed p end_array b ls k h = allowed (may_close p) end_array end_array ls k after_value h refl (λ top d f. refl)
placed p (key s) b ls k h = bad_follows (token (key s) ∷ ls)
placed p (string s) true ls k h = allowed (may_begin p) (string s) (key s) ls k after_key h refl (λ top d f. refl)
placed p (string s) false ls k h = allowed (may_begin p) (string s) (string s) ls k after_value h refl (λ top d f. refl)
placed p (number s) b ls k h = allowed (may_begin p) (number s) (number s) ls k after_value h refl (λ top d f. refl)
placed p (boolean c) b ls k h = allowed (may_begin p) (boolean c) (boolean c) ls k after_value h refl (λ top d f. refl)
placed p null b ls k h = allowed (may_begin p) null null ls k after_value h refl (λ top d f. refl)
placed p bad b ls k h = bad_follows (token bad ∷ ls)

behind_comma : (ls : List Lexeme) (ts : List Token) → Follows ls ts → Follows (comma ∷ ls) ts
behind_comma ls ts h = record { short = omega (arith, h.short); shallow = h.shallow }

behind_colon : (ls : List Lexeme) (ts : List Token) → Follows ls ts → Follows (colon ∷ ls) ts
behind_colon ls ts h = record { short = omega (arith, h.short); shallow = h.shallow }

none_follow : Follows [] []
none_follow = record { short = omega arith; shallow = λ top d h. refl }

punctuated : (ls : List Lexeme) (p : Place) → Follows ls (punctuate p ls)
unfolding punctuate
punctuated [] fresh = none_follow
punctuated [] after_value = none_follow
punctuated [] after_comma = bad_follows []
punctuated [] after_key = bad_follows []
punctuated (token t ∷ ls) fresh = placed fresh t (begins_colon ls) ls (λ next. punctuate next ls) (punctuated ls)
punctuated (token t ∷ ls) after_value = placed after_value t (begins_colon ls) ls (λ next. punctuate next ls) (punctuated ls)
punctuated (token t ∷ ls) after_comma = placed after_comma t (begins_colon ls) ls (λ next. punctuate next ls) (punctuated ls)
punctuated (token t ∷ ls) after_key = placed after_key t (begins_colon ls) ls (λ next. punctuate next ls) (punctuated ls)
punctuated (comma ∷ ls) fresh = bad_follows (comma ∷ ls)
punctuated (comma ∷ ls) after_value = behind_comma ls (punctuate after_comma ls) (punctuated ls after_comma)
punctuated (comma ∷ ls) after_comma = bad_follows (comma ∷ ls)
punctuated (comma ∷ ls) after_key = bad_follows (comma ∷ ls)
punctuated (colon ∷ ls) fresh = bad_follows (colon ∷ ls)
punctuated (colon ∷ ls) after_value = bad_follows (colon ∷ ls)
punctuated (colon ∷ ls) after_comma = bad_follows (colon ∷ ls)
punctuated (colon ∷ ls) after_key = behind_colon ls (punctuate fresh ls) (punctuated ls fresh)

pub tokens_short : (s : List ℕ) → tokens_size (tokens s) ≤ length s
tokens_short s = omega (arith, (punctuated (lex between s) fresh).short, lexed_short s)

pub tokens_shallow : (top : ℕ) (s : List ℕ) → reaches top Outside 0 s ≡ false → tokens_reach top 0 (tokens s) ≡ false
tokens_shallow top s h = (punctuated (lex between s) fresh).shallow top 0 (lexed_shallow top s h)
