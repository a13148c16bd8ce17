-- An answer that is fixed but for want of memory.
use Rattle.std.specs.Prelude.{◌≡◌, ◌⊎◌, Result, Err}

abbrev pub IsUnless : {T E : Type 0} → E → Result T E → Result T E → Type 0
IsUnless memory result expected = (result ≡ Err memory) ⊎ (result ≡ expected)
