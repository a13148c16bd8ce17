-- The summarize messages that wait, for private clauses. The least of their references is wanted behind every message, so those
-- of them are kept behind which none is less: the first of these is the least of all.
use Rattle.std.specs.Prelude.{◌≡◌, ℕ, ◌<◌, ◌≤◌, ◌==◌, nat_le, nat_lt, min, if◌then◌else◌, List, [], ◌∷◌}
use Rattle.fluid_types.specs.declared.messages.Message.{Message}
use Rattle.fluid_rules.specs.Scribe.{reference_of}
use Rattle.fluid_scribe.specs.declared.lows.Lows.{Lows}

-- as contracts see them: the messages, oldest first, and for how many more there is room
pub record Waits : Type 0 where
  pub messages : List Message
  pub spare : ℕ

-- ---- references behind which none is less

-- with one more in front
abbrev pub with_first : ℕ → List ℕ → List ℕ
with_first r [] = r ∷ []
with_first r (l ∷ ls) = if nat_le r l then r ∷ l ∷ ls else l ∷ ls

abbrev pub lows : List Message → List ℕ
lows [] = []
lows (m ∷ ms) = with_first (reference_of m) (lows ms)

-- the lesser of a number and the first of them
abbrev pub least_low : ℕ → List ℕ → ℕ
least_low n [] = n
least_low n (l ∷ ls) = min n l

-- without the first, where it is this reference
abbrev pub without_first : ℕ → List ℕ → List ℕ
without_first r [] = []
without_first r (l ∷ ls) = if r == l then ls else l ∷ ls

-- without those at the end that are above this reference
abbrev pub unless_above : ℕ → ℕ → List ℕ → List ℕ
unless_above r l [] = if nat_lt r l then [] else l ∷ []
unless_above r l (k ∷ ks) = l ∷ k ∷ ks

abbrev pub cut : ℕ → List ℕ → List ℕ
cut r [] = []
cut r (l ∷ ls) = unless_above r l (cut r ls)

-- ---- messages whose numbers rise

abbrev pub AreAbove : ℕ → List Message → Type 0
AreAbove n [] = Unit {0}
AreAbove n (m ∷ ms) = (n < m.number) × AreAbove n ms

abbrev pub AreUpTo : ℕ → List Message → Type 0
AreUpTo n [] = Unit {0}
AreUpTo n (m ∷ ms) = (m.number ≤ n) × AreUpTo n ms

abbrev pub AreRising : List Message → Type 0
AreRising [] = Unit {0}
AreRising (m ∷ ms) = AreAbove m.number ms × AreRising ms

-- their numbers rise up to the newest, and these are the lows of them
pub record IsOf (ms : List Message) (l : Lows) : Type 0 where
  pub rising : AreRising ms
  pub newest : AreUpTo l.newest ms
  pub lows : l.list.items ≡ lows ms

-- the first of them has this number
abbrev pub StartsWith : ℕ → List Message → Type 0
StartsWith n [] = ⊥
StartsWith n (m ∷ ms) = m.number ≡ n
