-- What holds of passes, and of keepers that have nothing.
use Rattle.std.specs.Prelude.{false, List, []}
use Rattle.fluid_turn.specs.declared.view.Numbered.{Numbered}
use Rattle.fluid_turn.specs.Entries.{entries}
use Rattle.fluid_rules.specs.Rules.{IsLegal}
use Rattle.fluid_document.specs.Kept.{IsKept}
use Rattle.fluid_lane.specs.declared.steps.Step.{Step}
use Rattle.fluid_lane.specs.Steps.{ledger}

-- the entered steps are a legal ledger
abbrev pub IsLegalHistory : List (Numbered Step) → Type 0
IsLegalHistory l = IsLegal (ledger (entries l))

-- a keeper that has nothing is kept for no entries
abbrev pub NewIsKept : Type 0
NewIsKept = IsKept false [] (record { log = []; deltas = []; checkpoints = [] })
