-- Which of the values in slots is the least.
use Rattle.std.specs.Prelude.{◌≡◌, ℕ, ◌≤◌, List, Option, None, Some, slice_index_or}

-- a number is its own rank
abbrev pub itself : ℕ → ℕ
itself n = n

module _ {X : Type 0} where
  -- the slot holds the value
  abbrev pub Holds : List (Option X) → ℕ → X → Type 0
  Holds slots slot value = slice_index_or slots slot None ≡ Some value

  module _ (number : X → ℕ) where
    -- a held value whose number is at most that of each held one
    pub record IsLeast (slots : List (Option X)) (value : X) : Type 0 where
      pub slot : ℕ
      pub holds : Holds slots slot value
      pub least : (other : ℕ) (held : X) → Holds slots other held → number value ≤ number held

    -- the same of a value that there may be: there is none exactly where no slot holds one
    abbrev pub IsLeastHeld : List (Option X) → Option X → Type 0
    IsLeastHeld slots None = (slot : ℕ) → slice_index_or slots slot None ≡ None
    IsLeastHeld slots (Some value) = IsLeast slots value
