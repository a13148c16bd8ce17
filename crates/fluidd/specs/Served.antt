-- What the exit status of `serve` says.
use Rattle.std.specs.Prelude.{◌≡◌, ◌⊎◌, ◌≤◌, ℕ}
use Rattle.fluid_io.specs.Causes.{Rose}
use Rattle.fluid_front.specs.Fronts.{Fronting, CountsStay}
use Rattle.fluid_front.specs.Serving.{IsDone, IsRefused}
use Rattle.fluid_front.specs.declared.spawner.FrontEnd.{FrontEnd}
use Rattle.fluid_front.specs.declared.spawner.FrontEnd.TheVariants as end
use Rattle.fluidd.specs.declared.status.Status.{Status}
use Rattle.fluidd.specs.declared.status.Status.TheVariants as status

-- the status for how the work on the front ended
abbrev pub served_status : FrontEnd → Status
served_status (end.Done n) = status.Done
served_status end.FrontFailed = status.FrontFault
served_status (end.SpawnRefused n) = status.SpawnRefused
served_status end.NoMemory = status.NoMemory

-- there are these statuses alone
abbrev pub IsServeStatus : (status : ℕ) → Type 0
IsServeStatus status = (status ≡ 0) ⊎ ((status ≡ 6) ⊎ ((status ≡ 9) ⊎ (status ≡ 10)))

-- what the status says of a run that was to serve so many connections, by the front and the count of refusals before it and behind it
pub record ServesConnections (connections : ℕ) (old : Fronting) (refused : ℕ) (new : Fronting) (refusals : ℕ) (status : ℕ) : Type 0 where
  -- no count falls
  pub counts : CountsStay old new
  pub later : refused ≤ refusals
  -- 0: the front gave as many wires as were asked for, or said that it gives no more
  pub done : status ≡ 0 → (n : ℕ) × IsDone connections n old new
  -- 9: the front failed
  pub front_fault : status ≡ 9 → Rose old.faults new.faults
  -- 10: the job of a wire was refused
  pub refusal : status ≡ 10 → Rose refused refusals × ((n : ℕ) × IsRefused connections n old new)
  pub known : IsServeStatus status
