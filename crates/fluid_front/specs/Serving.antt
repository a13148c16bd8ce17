-- How a spawner's work on a front ends.
use Rattle.std.specs.Prelude.{◌≡◌, ℕ, ◌+◌, ◌^◌, ◌<◌, ◌≤◌, Bool, true, false, ⊤}
use Rattle.fluid_io.specs.Causes.{Rose, Tells}
use Rattle.fluid_front.specs.declared.spawner.FrontEnd.{FrontEnd}
use Rattle.fluid_front.specs.declared.spawner.FrontEnd.TheVariants.{Done, FrontFailed, SpawnRefused, NoMemory}
use Rattle.fluid_front.specs.declared.spawner.Way.{Way}
use Rattle.fluid_front.specs.declared.spawner.Way.TheVariants.{Here, InThreads, AtStations}
use Rattle.fluid_front.specs.Fronts.{CountsStay, Fronting}

-- whether jobs run in threads
abbrev pub is_threaded : Way → Bool
is_threaded Here = false
is_threaded (InThreads most) = true
is_threaded (AtStations most) = true

-- a spawner in threads: how many it starts at most, and how often one wasn't started
pub record Spawning : Type 0 where
  pub most : ℕ
  pub refusals : ℕ

-- so many at most, and none refused
abbrev pub in_threads : ℕ → Spawning
in_threads threads = record { most = threads; refusals = 0 }

-- the count of wires rose by n, unless it stood so near its type's end that it stands still there
abbrev pub HasGiven : ℕ → Fronting → Fronting → Type 0
HasGiven n old new = old.given + n < 2 ^ 64 → new.given ≡ old.given + n

-- n wires were served: as many as were asked for, and then the front was asked for no more, or all that it gave
pub record IsDone (connections n : ℕ) (old new : Fronting) : Type 0 where
  pub given : HasGiven n old new
  pub most : n ≤ connections
  pub all : n ≡ connections → new.nones ≡ old.nones
  pub ended : n < connections → Rose old.nones new.nones × Tells new.left (λ left. left ≡ 0)

-- the job of wire n wasn't started
pub record IsRefused (connections n : ℕ) (old new : Fronting) : Type 0 where
  pub given : HasGiven n old new
  pub first : 0 < n
  pub most : n ≤ connections

-- what the end says of the front
abbrev pub EndsBy : ℕ → Fronting → Fronting → FrontEnd → Type 0
EndsBy connections old new (Done n) = IsDone connections n old new
EndsBy connections old new FrontFailed = Rose old.faults new.faults
EndsBy connections old new (SpawnRefused n) = IsRefused connections n old new
EndsBy connections old new NoMemory = ⊤

-- no count of the front fell, and the end has its cause
pub record Serves (connections : ℕ) (old new : Fronting) (end : FrontEnd) : Type 0 where
  pub counts : CountsStay old new
  pub does : EndsBy connections old new end

-- a spawner's count of refusals rises where it answers one, and stands where it answers anything else
abbrev pub Refuses : ℕ → ℕ → FrontEnd → Type 0
Refuses before now (SpawnRefused n) = (before ≤ now) × Rose before now
Refuses before now other = now ≡ before

-- only a job that is to be a thread can be refused
abbrev pub MayEnd : Bool → FrontEnd → Type 0
MayEnd threads (Done n) = ⊤
MayEnd threads FrontFailed = ⊤
MayEnd threads (SpawnRefused n) = threads ≡ true
MayEnd threads NoMemory = ⊤
