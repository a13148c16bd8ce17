-- A verdict that is counted apart.
use Rattle.std.specs.Prelude.{Bool, true, false}
use Rattle.fluid_types.specs.declared.verdicts.Verdict.{Verdict}
use Rattle.fluid_types.specs.declared.verdicts.Verdict.TheVariants.{Absorbed}

abbrev pub is_absorbed : Verdict → Bool
is_absorbed Absorbed = true
is_absorbed verdict = false
