-- No client has the name of a container.
use Rattle.std.proofs.Common.{◌≡◌, ℕ, zero, suc, ◌+◌, ◌/◌, ◌%◌, ◌<◌, arith, Bool, true, false, if◌then◌else◌, List, [], ◌∷◌, ◌==◌, bytes_eq, decimal, refl, sym, subst, mod-lt, lt-ltb}
use Rattle.std.specs.Fmt.{digit_glyph, digits_onto, digits}
use Rattle.std.proofs.lemmas.Slice.Eq.{bytes_eq-Decides}
use Rattle.fluid_workload.specs.Working.{named, p, q}

-- bytes below the letters of both containers
abbrev AreLow : List ℕ → Type 0
AreLow [] = Unit {0}
AreLow (b ∷ bs) = (b < 112) × AreLow bs

glyph_low : (n : ℕ) → n < 10 → digit_glyph false n < 112
glyph_low n within = subst (λ b. (if b then 48 + n else 87 + n) < 112) (sym (lt-ltb n 10 within)) (omega (arith, within))

onto_low : (k n : ℕ) (acc : List ℕ) → AreLow acc → AreLow (digits_onto k 10 false n acc)
onto_low zero n acc low = low
onto_low (suc k) n acc low = by (n / 10 == 0) (onto_low k (n / 10) (digit_glyph false (n % 10) ∷ acc) more)
  where
    more : AreLow (digit_glyph false (n % 10) ∷ acc)
    more = (glyph_low (n % 10) (mod-lt n (omega arith)), low)

    by : (b : Bool) → AreLow (digits_onto k 10 false (n / 10) (digit_glyph false (n % 10) ∷ acc)) → AreLow (if b then digit_glyph false (n % 10) ∷ acc else digits_onto k 10 false (n / 10) (digit_glyph false (n % 10) ∷ acc))
    by true later = more
    by false later = later

decimal_low : (n : ℕ) → AreLow (decimal n)
unfolding digits
decimal_low n = onto_low 64 n [] tt

not_low_p : AreLow p → ⊥
not_low_p low = absurd (omega (arith, low.0))

not_low_q : AreLow q → ⊥
not_low_q low = absurd (omega (arith, low.0))

pub client_is_not_p : (client : ℕ) → bytes_eq p (named client) ≡ false
client_is_not_p client = by (bytes_eq p (named client)) refl
  where
    by : (b : Bool) → bytes_eq p (named client) ≡ b → b ≡ false
    by true same = absurd (not_low_p (subst AreLow (sym ((bytes_eq-Decides p (named client)).0 same)) (decimal_low client)))
    by false other = refl

pub client_is_not_q : (client : ℕ) → bytes_eq q (named client) ≡ false
client_is_not_q client = by (bytes_eq q (named client)) refl
  where
    by : (b : Bool) → bytes_eq q (named client) ≡ b → b ≡ false
    by true same = absurd (not_low_q (subst AreLow (sym ((bytes_eq-Decides q (named client)).0 same)) (decimal_low client)))
    by false other = refl
