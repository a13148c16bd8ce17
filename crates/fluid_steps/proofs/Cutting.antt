-- A text at its first blank.
use Rattle.std.proofs.Common.{◌≡◌, ℕ, ◌+◌, ◌<◌, Bool, true, false, cond, arith, List, length, get_or, Some, None, refl, sym, subst}
use Rattle.std.specs.Prelude.{nat_lt}
use Rattle.std.specs.List.{position, position_or_len}
use Rattle.std.specs.Str.{IsUtf8, IsCharBoundary}
use Rattle.std.proofs.lemmas.Bool.Decides.{nat_tests}
use Rattle.std.proofs.lemmas.List.Sums.{passes_at_first}
use Rattle.std.proofs.lemmas.Str.{IsCharBoundary-before_ascii, IsCharBoundary-after_ascii}
use Rattle.fluid_steps.specs.Grammar.{is_blank}

-- the place of a blank
pub record IsBlankAt (text : List ℕ) (place : ℕ) : Type 0 where
  pub first : place ≡ position_or_len is_blank text
  pub within : place < length text

pub blank_at : (text : List ℕ) (place : ℕ) → position is_blank text ≡ Some place → IsBlankAt text place
blank_at text place = by (nat_lt (position_or_len is_blank text) (length text)) refl
  where
    by : (b : Bool) → nat_lt (position_or_len is_blank text) (length text) ≡ b → cond b (Some (position_or_len is_blank text)) None ≡ Some place → IsBlankAt text place
    by true is h =
        let same : position_or_len is_blank text ≡ place = cc in
        record { first = sym same; within = subst (λ n. n < length text) same (grind (arith, nat_tests, is)) }
    by false is h = absurd (cc)

blank_is_ascii : (byte : ℕ) → is_blank byte ≡ true → byte < 128
blank_is_ascii byte h = grind (arith, nat_tests, h)

pub ascii_at : (text : List ℕ) (place : ℕ) → IsBlankAt text place → get_or text place 0 < 128
ascii_at text place at =
    blank_is_ascii (get_or text place 0)
    (subst (λ n. is_blank (get_or text n 0) ≡ true) (sym at.first) (passes_at_first is_blank text 0 (subst (λ n. n < length text) at.first at.within)))

pub begins_at : (text : List ℕ) (place : ℕ) → position is_blank text ≡ Some place → IsCharBoundary text place
begins_at text place is = let at = blank_at text place is in IsCharBoundary-before_ascii text place at.within (ascii_at text place at)

pub ends_at : (text : List ℕ) (place : ℕ) → IsUtf8 text → position is_blank text ≡ Some place → IsCharBoundary text (place + 1)
ends_at text place utf8 is = let at = blank_at text place is in IsCharBoundary-after_ascii text place utf8 at.within (ascii_at text place at)
