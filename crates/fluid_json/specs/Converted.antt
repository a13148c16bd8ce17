-- What is made of a value of `serde_json`, for the private clauses of its conversion.
use Rattle.std.specs.Prelude.{◌≡◌, ◌⊎◌, Option, Some, None, Result, MatchResult}
use Rattle.fluid_json.specs.declared.fault.JsonFault.{JsonFault}
use Rattle.fluid_json.specs.declared.fault.JsonFault.TheVariants.{NotWhole, NoMemory}

-- memory ran out, or there is nothing since some number isn't whole
abbrev pub IsCause : {A : Type 0} → Option A → JsonFault → Type 0
IsCause whole fault = (fault ≡ NoMemory) ⊎ ((fault ≡ NotWhole) × (whole ≡ None))

-- the result is what is expected, where there is one
abbrev pub Makes : {A B : Type 0} → (A → B) → Option B → Result A JsonFault → Type 0
Makes f expected result = MatchResult result (λ a. expected ≡ Some (f a)) (IsCause expected)
