-- The steps of a document, oldest first: the entered entries, and the side steps between them.
use Rattle.std.specs.Prelude.{ℕ, ◌+◌, ◌≤◌, ⊤, List, [], ◌∷◌, Option, Some, None, Result, Ok, Err}
use Rattle.std.specs.Option.{option_or}
use Rattle.fluid_types.specs.declared.entries.Raw.{Raw}
use Rattle.fluid_types.specs.declared.messages.Message.{Message}
use Rattle.fluid_types.specs.declared.verdicts.Verdict.{Verdict}
use Rattle.fluid_types.specs.declared.verdicts.Verdict.TheVariants as verdict
use Rattle.fluid_types.specs.Ledger.{Ledger}
use Rattle.fluid_deltas.specs.declared.fault.DeltaFault.{DeltaFault}
use Rattle.fluid_deltas.specs.declared.fault.DeltaFault.TheVariants as delta
use Rattle.fluid_lane.specs.declared.steps.Side.{Side}
use Rattle.fluid_lane.specs.declared.steps.Side.TheVariants.{Failed, Stored, Restarted}
use Rattle.fluid_lane.specs.declared.steps.Step.{Step}
use Rattle.fluid_lane.specs.declared.steps.Step.TheVariants.{Entered, Aside}
use Rattle.fluid_lane.specs.declared.fault.LaneFault.{LaneFault}
use Rattle.fluid_lane.specs.declared.fault.LaneFault.TheVariants.{LogFailed, DeltaFailed}

-- ---- what a list of steps says

-- the ledger of the entered entries
abbrev pub ledger : List Step → Ledger
ledger [] = []
ledger (Entered raw verdict ∷ steps) = (raw, verdict) ∷ ledger steps
ledger (Aside side ∷ steps) = ledger steps

-- the last side step
abbrev pub last_side : List Step → Option Side
last_side [] = None
last_side (Entered raw verdict ∷ steps) = last_side steps
last_side (Aside side ∷ steps) = option_or (last_side steps) (Some side)

abbrev pub stores : Side → ℕ
stores (Failed note) = 0
stores (Stored number) = 1
stores (Restarted number) = 0

-- how many checkpoints were stored
abbrev pub stored : List Step → ℕ
stored [] = 0
stored (Entered raw verdict ∷ steps) = stored steps
stored (Aside side ∷ steps) = stores side + stored steps

-- how many side steps there are
abbrev pub asides : List Step → ℕ
asides [] = 0
asides (Entered raw verdict ∷ steps) = asides steps
asides (Aside side ∷ steps) = 1 + asides steps

abbrev pub IsNotedIn : ℕ → Side → Type 0
IsNotedIn faults (Failed note) = note.after ≤ faults
IsNotedIn faults (Stored number) = ⊤
IsNotedIn faults (Restarted number) = ⊤

-- so many faults are at least those that each note tells
abbrev pub AreNoted : ℕ → List Step → Type 0
AreNoted faults [] = ⊤
AreNoted faults (Entered raw verdict ∷ steps) = AreNoted faults steps
AreNoted faults (Aside side ∷ steps) = IsNotedIn faults side × AreNoted faults steps

-- the steps of a ledger without side steps
abbrev pub steps : Ledger → List Step
steps [] = []
steps (entry ∷ ledger) = Entered entry.0 entry.1 ∷ steps ledger

-- ---- what a call's answer adds

-- a failed call of the keeper is a side step, and nothing else is
abbrev pub fault_steps : LaneFault → List Step
fault_steps (LogFailed note) = Aside (Failed note) ∷ []
fault_steps (DeltaFailed note) = Aside (Failed note) ∷ []
fault_steps other = []

-- an answer adds what its value says, and a fault that of the keeper alone
abbrev pub steps_of : {A : Type 0} → (A → List Step) → Result A LaneFault → List Step
steps_of says (Ok a) = says a
steps_of says (Err fault) = fault_steps fault

-- the entry with its verdict
abbrev pub entered_by : Raw → Verdict → List Step
entered_by raw verdict = Entered raw verdict ∷ []

-- the join with its message
abbrev pub joined_by : Raw × Message → List Step
joined_by (raw, message) = Entered raw (verdict.Sequenced message) ∷ []

abbrev pub stored_by : ℕ → List Step
stored_by number = Aside (Stored number) ∷ []

abbrev pub restarted_by : {A : Type 0} → ℕ → A → List Step
restarted_by number done = Aside (Restarted number) ∷ []

abbrev pub nothing_by : {A : Type 0} → A → List Step
nothing_by answer = []

-- the same of a range
abbrev pub delta_steps : DeltaFault → List Step
delta_steps (delta.DeltaFailed note) = Aside (Failed note) ∷ []
delta_steps other = []

abbrev pub range_steps : {A : Type 0} → Result A DeltaFault → List Step
range_steps (Ok messages) = []
range_steps (Err fault) = delta_steps fault

-- a sweep adds the leave that it entered, where there was one to enter
abbrev pub swept_by : Option (Raw × Message) → List Step
swept_by None = []
swept_by (Some (raw, message)) = Entered raw (verdict.Sequenced message) ∷ []
