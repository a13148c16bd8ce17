use Rattle.std.proofs.Common.{arith, ◌<◌, List, [], ◌∷◌, ℕ, Result, Ok, Err, refl}
use Rattle.std.specs.Str.{IsAscii, IsUtf8}
use Rattle.std.specs.Result.{IsOk, MatchResult}
use Rattle.std.proofs.lemmas.Str.{IsUtf8-from_ascii}
use Rattle.std.proofs.lemmas.Str.Ascii.{IsAscii-nil, IsAscii-cons}
use Rattle.hex.specs.Hex.{lower_digits}
use Rattle.hex.proofs.HexLemmas.{IsAscii-encode_with}
use Rattle.fluid_codec.proofs.hexadecimal.ArrayU820Print.print.Goals as goal

abbrev AreBelow : List ℕ → Type 0
AreBelow [] = Unit {0}
AreBelow (b ∷ bs) = (b < 128) × AreBelow bs

ascii : (bs : List ℕ) → AreBelow bs → IsAscii bs
ascii [] below = IsAscii-nil
ascii (b ∷ bs) below = IsAscii-cons b bs below.0 (ascii bs below.1)

ascii_digits : IsAscii lower_digits
ascii_digits =
    ascii lower_digits (
      omega arith,
      (
        omega arith,
        (
          omega arith,
          (
            omega arith,
            (
              omega arith,
              (
                omega arith,
                (
                  omega arith,
                  (
                    omega arith,
                    (omega arith, (omega arith, (omega arith, (omega arith, (omega arith, (omega arith, (omega arith, (omega arith, tt)))))))),
                  ),
                ),
              ),
            ),
          ),
        ),
      ),
    )

succeeds : {T E : Type 0} (P : T → Type 0) (Q : E → Type 0) {U : Type 0} (r : Result T E) → MatchResult r P (λ e. (U → ⊥) × Q e) → U → IsOk r
succeeds P Q (Ok x) m u = refl
succeeds P Q (Err e) m u = absurd (m.0 u)

pub unwrap-requires-2 : goal.unwrap-requires-2
unwrap-requires-2 c =
    let written = rw c.unwrap.ensures at c.encode_to_slice.ensures.written in
    succeeds _ _ _ c.from_utf8.ensures.cases (rw written (IsUtf8-from_ascii _ (IsAscii-encode_with lower_digits c.args.self.now ascii_digits)))
