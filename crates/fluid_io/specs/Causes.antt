-- What is known of an object of the outside: how its faults are counted, and what it tells.
use Rattle.std.specs.Prelude.{◌≡◌, ℕ, ◌+◌, ◌-◌, ◌^◌, ◌≤◌, min, Option, Result, IfSome, OnOk, OnErr}

-- a count that has gone up by one; at the end of its type it stands still
abbrev pub one_more : ℕ → ℕ
one_more count = min (count + 1) (2 ^ 64 - 1)

-- the count rose; one that stood at the end of its type counts as risen
abbrev pub Rose : ℕ → ℕ → Type 0
Rose before now = one_more before ≤ now

-- a count of faults never falls, and the call failed only where it rose
pub record HasCause {A E : Type 0} (before now : ℕ) (result : Result A E) : Type 0 where
  pub later : before ≤ now
  pub failed : OnErr result (Rose before now)

-- the same of a call that hides no fault: where it didn't fail, the count stays as it was
pub record HasExactCause {A E : Type 0} (before now : ℕ) (result : Result A E) : Type 0 where
  pub later : before ≤ now
  pub failed : OnErr result (Rose before now)
  pub quiet : OnOk result (now ≡ before)

-- a fact on what an object holds; one that doesn't tell it owes nothing
abbrev pub Tells : {A : Type 0} → Option A → (A → Type 0) → Type 0
Tells told fact = IfSome told fact
