-- The first of the lines of some bytes.
use Rattle.std.proofs.Common.{◌≡◌, ℕ, ◌+◌, ◌-◌, ◌<◌, ◌≤◌, true, false, List, [], ◌∷◌, ◌++◌, length, take, refl, ap, sym, ◌∙◌, arith, append_assoc, length-append, append-nil, ne_eqb, subst, ⊎_elim, if◌then◌else◌, ◌==◌, slice_index}
use Rattle.std.proofs.lemmas.Bool.Decides.{eqb_tells}
use Rattle.std.specs.List.{slice_split}
use Rattle.std.specs.Str.Lines.{lines, lines_of_parts, strip_carriage_return}
use Rattle.std.proofs.lemmas.List.{length-take}
use Rattle.std.proofs.lemmas.List.Elements.{All-push}
use Rattle.std.proofs.lemmas.List.Splits.{slice_split_none, slice_split_at, length-slice_split}
use Rattle.fluid_io.specs.Lines.{IsPlain}

-- a part with another behind it is a line without its carriage return
part_before : (part : List ℕ) (parts : List (List ℕ)) → 0 < length parts → lines_of_parts (part ∷ parts) ≡ strip_carriage_return part ∷ lines_of_parts parts
part_before part [] some = absurd (omega arith)
part_before part (next ∷ more) some = refl

-- bytes up to a line feed are the first line
pub line_fed : (line rest : List ℕ) → IsPlain line → lines ((line ++ 10 ∷ []) ++ rest) ≡ strip_carriage_return line ∷ lines rest
line_fed line rest plain =
    ap lines (append_assoc line (10 ∷ []) rest)
    ∙ ap lines_of_parts (slice_split_at (λ b. b == 10) line 10 rest plain refl)
    ∙ part_before line (slice_split (λ b. b == 10) rest) (omega (arith, length-slice_split (λ b. b == 10) rest))

-- bytes with no line feed are the one line, where there are any
pub line_unfed : (line : List ℕ) → IsPlain line → lines line ≡ (if length line == 0 then [] else line ∷ [])
line_unfed line plain = ap lines_of_parts (slice_split_none (λ b. b == 10) line plain)

pub lines_none : lines [] ≡ []
lines_none = refl

-- bytes have a first line that is longer than the limit
pub record IsLong (limit : ℕ) (bytes : List ℕ) : Type 0 where
  pub first : List ℕ
  pub more : List (List ℕ)
  pub are : lines bytes ≡ first ∷ more
  pub long : limit < length first

-- a line without its carriage return is at most one byte shorter
strip_length : (line : List ℕ) → length line ≤ length (strip_carriage_return line) + 1
strip_length line = elim (slice_index line (length line - 1) == 13) as (λ b. length line ≤ length (if b then take (length line - 1) line else line) + 1)
    [ true ↦ omega (arith, length-take (length line - 1) line) | false ↦ omega arith ]

-- more bytes than a line may have, one more for a carriage return, and then a line feed
long_fed : (limit : ℕ) (line rest : List ℕ) → IsPlain line → limit + 1 < length line → IsLong limit (line ++ 10 ∷ rest)
long_fed limit line rest plain long = record {
  first = strip_carriage_return line;
  more = lines rest;
  are = ap lines (sym (append_assoc line (10 ∷ []) rest)) ∙ line_fed line rest plain;
  long = omega (arith, strip_length line);
}

-- one more byte behind these is one of them and then the others
onward : (limit x : ℕ) (line xs : List ℕ) → IsLong limit ((line ++ x ∷ []) ++ xs) → IsLong limit (line ++ x ∷ xs)
onward limit x line xs h = record {
  first = h.first;
  more = h.more;
  are = ap lines (sym (append_assoc line (x ∷ []) xs)) ∙ h.are;
  long = h.long;
}

-- whatever stands behind more bytes than a line may have, one more for a carriage return, the line is too long
pub long_line : (limit : ℕ) (line rest : List ℕ) → IsPlain line → limit + 1 < length line → IsLong limit (line ++ rest)
long_line limit line [] plain long =
    let some : (length line == 0) ≡ false = ne_eqb _ _ (omega arith) in record {
      first = line;
      more = [];
      are = ap lines (append-nil line) ∙ line_unfed line plain ∙ rw some refl;
      long = omega arith;
    }
long_line limit line (x ∷ xs) plain long =
    ⊎_elim
    (λ is. subst (λ y. IsLong limit (line ++ y ∷ xs)) (sym is.1) (long_fed limit line xs plain long))
    (λ not. onward limit x line xs (long_line limit (line ++ x ∷ []) xs (All-push (λ b. (b == 10) ≡ false) line x plain not.0) (omega (arith, length-append line (x ∷ [])))))
    (eqb_tells x 10)
