-- What a taker does with the text of a line.
use Rattle.std.specs.Prelude.{◌≡◌, ℕ, ◌≤◌, List, [], ◌∷◌, ◌++◌, Some, None, Result, Ok, Err}
use Rattle.fluid_io.specs.declared.lines.TheConstants.{MOST_LINES}
use Rattle.fluid_pipe.specs.Meaning.{Meaning}
use Rattle.fluid_pipe.specs.declared.taker.Untaken.{Untaken}
use Rattle.fluid_pipe.specs.declared.taker.Untaken.TheVariants.{Refused, Failed}

-- it took at most as many lines as an input has
pub record IsWithinMost (Within : ℕ → Type 0) : Type 0 where
  pub taken : ℕ
  pub within : Within taken
  pub few : taken ≤ MOST_LINES

-- a text was taken: what is written for it waits behind what waited before
pub record TakesText {W : Type 0} (m : Meaning W) (Keeps : List (List ℕ) → Type 0) (before : List (List ℕ)) (text : List ℕ) (old new : List ℕ) : Type 0 where
  pub accepted : m.refusal before text ≡ None
  pub keeps : Keeps (before ++ text ∷ [])
  pub more : List ℕ
  pub waits : new ≡ old ++ more
  pub output : m.output (before ++ text ∷ []) ≡ m.output before ++ more

-- what is made of a text behind these lines
abbrev pub Takes : {W F : Type 0} → Meaning W → (List (List ℕ) → Type 0) → List (List ℕ) → List ℕ → (old new : List ℕ) → Result (Unit {0}) (Untaken W F) → Type 0
Takes m Keeps before text old new (Ok done) = TakesText m Keeps before text old new
Takes m Keeps before text old new (Err (Refused why)) = (m.refusal before text ≡ Some why) × Keeps before
Takes m Keeps before text old new (Err (Failed fault)) = Unit {0}

-- at a failure of the taker it failed so
abbrev pub FailsBy : {W F : Type 0} → (F → Type 0) → Result (Unit {0}) (Untaken W F) → Type 0
FailsBy Fails (Err (Failed fault)) = Fails fault
FailsBy Fails _ = Unit {0}
