-- The state of a ledger, and one entry more.
use Rattle.std.specs.Prelude.{◌≡◌, [], ◌∷◌, ◌++◌}
use Rattle.fluid_types.specs.Ledger.{Ledger}
use Rattle.fluid_types.specs.declared.entries.Raw.{Raw}
use Rattle.fluid_types.specs.declared.verdicts.Verdict.{Verdict}
use Rattle.fluid_rules.specs.Rules.{IsLegal, verdict}
use Rattle.fluid_core.specs.Entering.{verdict_in, after, state_of}

-- the verdict in the state of a legal ledger is that of the rules
abbrev pub VerdictByRules : Type 0
VerdictByRules = (l : Ledger) (raw : Raw) → IsLegal l → verdict_in (state_of l) raw ≡ verdict l raw

-- and the state with this entry is what the verdict makes of the state before
abbrev pub StateGrows : Type 0
StateGrows = (l : Ledger) (raw : Raw) (given : Verdict) → IsLegal l → given ≡ verdict l raw → state_of (l ++ (raw, given) ∷ []) ≡ after (state_of l) raw given
