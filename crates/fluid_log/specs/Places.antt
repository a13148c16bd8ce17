-- Shelves in memory: where the keeper of each document is.
use Rattle.std.specs.Prelude.{◌≡◌, ℕ, nat_le, ◌≤◌, max, List, [], ◌∷◌, ◌++◌, Option, Some, None, IfSome, refl, Result, Ok, Err, if◌then◌else◌}
use Rattle.std.specs.Option.{option_map, option_to_list}
use Rattle.std.specs.FinMap.{FinMap, entries, from_sorted, get, code}
use Rattle.std.specs.Coded.{Coded, code_by, coded×, coded_ℕ, coded_list}
use Rattle.fluid_log.specs.contracts.place.Place as place
use Rattle.fluid_io.specs.Causes.{one_more}
use Rattle.fluid_io.specs.Plan.{Planned, plan_code, called_by_plan}
use Rattle.fluid_log.specs.declared.fault.KeeperFault.{KeeperFault}
use Rattle.fluid_log.specs.declared.fault.KeeperFault.TheVariants.{Failed, NoMemory}
use Rattle.fluid_log.specs.declared.place.Place.{Place}
use Rattle.fluid_log.specs.declared.place.Place.TheVariants.{In, Out}
use Rattle.fluid_log.specs.Keeping.{Keeping}
use Rattle.fluid_log.specs.Memory.{MemoryKeeping, memory_seen, fresh_memory, FollowsPlan}
use Rattle.fluid_log.specs.Shelving.{Shelving, byte_order}

-- the place of each document that was asked for
abbrev pub Places : Type 0
Places = FinMap byte_order Place

-- the keeper that is in a place
abbrev pub keeper_in : Place → Option Keeping
keeper_in (In keeper) = Some (memory_seen keeper)
keeper_in (Out given) = None

-- the count with which the keeper was given that is out
abbrev pub given_with : Place → Option ℕ
given_with (In keeper) = None
given_with (Out given) = Some given

-- the same keeper with its plan
abbrev pub memory_in : Place → Option MemoryKeeping
memory_in (In keeper) = Some keeper
memory_in (Out given) = None

-- so many faults are at least those of a place
abbrev pub IsBelow : ℕ → Place → Type 0
IsBelow faults (In keeper) = keeper.plan.faults ≤ faults
IsBelow faults (Out given) = given ≤ faults

abbrev pub AreBelow : ℕ → Places → Type 0
AreBelow faults places = (name : List ℕ) → IfSome (get places name) (IsBelow faults)

-- the entries for which there is a value, under their names
abbrev pub entries_where : {X Y : Type 0} → (X → Option Y) → List (List ℕ × X) → List (List ℕ × Y)
entries_where value [] = []
entries_where value (entry ∷ entries) = option_to_list (option_map (λ y. (entry.0, y)) (value entry.1)) ++ entries_where value entries

abbrev pub values_where : {X Y : Type 0} → (X → Option Y) → FinMap byte_order X → FinMap byte_order Y
values_where value m = from_sorted (entries_where value (entries m))

pub record MemoryShelving : Type 0 where
  pub places : Places
  -- the calls that are to fail
  pub plan : Planned
  -- how many faults were counted
  pub faults : ℕ

abbrev pub memory_shelving_code : Coded MemoryShelving
memory_shelving_code =
    code_by (Places × (Planned × ℕ)) (coded× (code (coded_list coded_ℕ) place.the_row.coded) (coded× plan_code coded_ℕ)) (λ s. (s.places, (s.plan, s.faults)))
    (λ parts. record { places = parts.0; plan = parts.1.0; faults = parts.1.1 }) (λ _. refl)

-- they tell their keepers
abbrev pub shelves_seen : MemoryShelving → Shelving
shelves_seen s = record { held = Some (values_where keeper_in s.places); out = values_where given_with s.places; faults = s.faults }

-- the keeper in a place; a document without one gets a fresh one
abbrev pub keeper_at : Option Place → MemoryKeeping
keeper_at None = fresh_memory [] []
keeper_at (Some (In keeper)) = keeper
keeper_at (Some (Out given)) = fresh_memory [] []

-- the count of faults after a call
abbrev pub faults_after : {A : Type 0} → ℕ → Result A KeeperFault → ℕ
faults_after faults (Ok answer) = faults
faults_after faults (Err Failed) = one_more faults
faults_after faults (Err NoMemory) = faults

-- a keeper is asked for: the call fails where the plan says so
pub record AsksPlan {A : Type 0} (old new : MemoryShelving) (result : Result A KeeperFault) : Type 0 where
  pub plan : new.plan ≡ called_by_plan old.plan
  pub fails : FollowsPlan old.plan result
  pub faults : new.faults ≡ faults_after old.faults result

-- the shelves' count after a keeper came back: one more, and at least the keeper's, where the keeper's had risen
abbrev pub faults_back : (given back faults : ℕ) → ℕ
faults_back given back faults = if nat_le (one_more given) back then max (one_more faults) back else faults
