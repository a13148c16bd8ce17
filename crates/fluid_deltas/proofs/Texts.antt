-- A test of bytes that are no text.
use Rattle.std.proofs.Common.{◌≡◌, ℕ, Bool, true, false, List, refl}
use Rattle.std.specs.Str.{is_utf8, IsUtf8}
use Rattle.std.proofs.lemmas.Str.{IsUtf8-from_is_utf8}

not_true : (b : Bool) → ((b ≡ true) → ⊥) → b ≡ false
not_true true never = absurd (never refl)
not_true false never = refl

pub no_utf8 : (bytes : List ℕ) → ¬ IsUtf8 bytes → is_utf8 bytes ≡ false
no_utf8 bytes never = not_true (is_utf8 bytes) (λ is. never (IsUtf8-from_is_utf8 bytes is))
