-- Bytes that are UTF-8, and those that aren't.
use Rattle.std.proofs.Common.{◌≡◌, ℕ, Bool, true, false, List, Some, None, refl, ap}
use Rattle.std.specs.Prelude.{IsUtf8}
use Rattle.std.specs.Str.{is_utf8}
use Rattle.std.proofs.lemmas.Str.{is_utf8-from_IsUtf8, IsUtf8-from_is_utf8}
use Rattle.fluid_quorum.specs.Reading.{as_utf8}

not_true : (b : Bool) → ((b ≡ true) → ⊥) → b ≡ false
not_true true never = absurd (never refl)
not_true false never = refl

pub no_utf8 : (bytes : List ℕ) → ¬ IsUtf8 bytes → is_utf8 bytes ≡ false
no_utf8 bytes never = not_true (is_utf8 bytes) (λ is. never (IsUtf8-from_is_utf8 bytes is))

pub is_text : (s t : List ℕ) → t ≡ s → IsUtf8 s → Some t ≡ as_utf8 s
is_text s t same utf8 = rw (is_utf8-from_IsUtf8 s utf8) (ap Some same)

pub no_text : (s : List ℕ) → ¬ (IsUtf8 s) → None ≡ as_utf8 s
no_text s never = rw (no_utf8 s never) refl
