-- Who is silent, and what a sweep makes of a lane.
use Rattle.std.specs.Prelude.{◌≡◌, ℕ, ◌+◌, nat_lt, Bool, false, List, [], ◌∷◌, Option, Some, None, Result, Ok, IfOk, if◌then◌else◌}
use Rattle.std.specs.Option.{option_map_or}
use Rattle.std.specs.FinMap.{get, keys}
use Rattle.fluid_types.specs.declared.entries.Raw.{Raw}
use Rattle.fluid_types.specs.declared.entries.Raw.TheVariants.{Leave}
use Rattle.fluid_types.specs.declared.messages.Message.{Message}
use Rattle.fluid_types.specs.declared.verdicts.Verdict.TheVariants.{Sequenced}
use Rattle.fluid_clients.specs.Table.{Rows}
use Rattle.fluid_core.specs.Entering.{State, verdict_in}
use Rattle.fluid_lane.specs.declared.fault.LaneFault.{LaneFault}
use Rattle.fluid_lane.specs.Faults.{IsOutside}
use Rattle.fluid_lane.specs.Standing.{Standing}
use Rattle.fluid_lane.specs.Refusals.{IsGated}
use Rattle.fluid_lane.specs.Calls.{Enters}

-- a joined client was last heard of more than so long before the moment
abbrev pub is_silent : (moment silence : ℕ) → Rows → List ℕ → Bool
is_silent moment silence rows id = option_map_or (λ row. nat_lt (row.heard + silence) moment) (get rows id) false

-- the first element of which this holds
abbrev pub first_by : {X : Type 0} → (X → Bool) → List X → Option X
first_by p [] = None
first_by p (x ∷ xs) = if p x then Some x else first_by p xs

-- the first of them in byte order of ids
abbrev pub first_silent : (moment silence : ℕ) → Rows → Option (List ℕ)
first_silent moment silence rows = first_by (is_silent moment silence rows) (keys rows)

-- the leave with its message
abbrev pub IsSwept : Raw → State → Option (Raw × Message) → Type 0
IsSwept raw state None = ⊥
IsSwept raw state (Some (left, message)) = (left ≡ raw) × (Sequenced message ≡ verdict_in state raw)

-- the leave was entered, as a submission of it would be
pub record Sweeps (raw : Raw) (old new : Standing) (result : Result (Option (Raw × Message)) LaneFault) : Type 0 where
  pub gate : IsGated old new [] IsOutside result
  pub enters : Enters raw old new result
  pub gives : IfOk result (IsSwept raw old.entries.state)

-- where nobody is silent nothing happens
abbrev pub SweepsBy : (moment : ℕ) → Option (List ℕ) → (old new : Standing) → Result (Option (Raw × Message)) LaneFault → Type 0
SweepsBy moment None old new result = (result ≡ Ok None) × (new ≡ old)
SweepsBy moment (Some id) old new result = Sweeps (Leave id moment) old new result
