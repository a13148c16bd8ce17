-- The keepers of many documents, by name: which are in and which are out, and what giving one and putting it back does.
use Rattle.std.specs.Prelude.{◌≡◌, ℕ, ◌<◌, ◌≤◌, List, Option, Some, None, IfSome, Result, Ok, Err, IsSome, unwrap_or}
use Rattle.std.specs.Option.{option_map}
use Rattle.std.specs.FinMap.{FinMap, empty, get, insert, remove}
pub use Rattle.fluid_table.specs.Table.{byte_order}
use Rattle.fluid_io.specs.Causes.{Rose, Tells, one_more}
use Rattle.fluid_log.specs.declared.fault.KeeperFault.{KeeperFault}
use Rattle.fluid_log.specs.Keeping.{Keeping, nothing_kept}

pub record Shelving : Type 0 where
  -- the keepers that are in, by the names of their documents, where the shelves tell them
  pub held : Option (FinMap byte_order Keeping)
  -- the keepers that are out, each with the count of faults with which it was given
  pub out : FinMap byte_order ℕ
  -- how many faults were counted
  pub faults : ℕ

-- a keeper that keeps nothing yet
abbrev pub fresh : Keeping
fresh = record { content = Some nothing_kept; records = 0; deltas = 0; checkpoints = 0; faults = 0; reads = 0 }

-- the keeper that is in under a name; a document that has none yet gets a fresh one
abbrev pub keeper_under : FinMap byte_order Keeping → List ℕ → Keeping
keeper_under held name = unwrap_or (get held name) fresh

abbrev pub IsOut : Shelving → List ℕ → Type 0
IsOut s name = IsSome (get s.out name)

abbrev pub IsIn : Shelving → List ℕ → Type 0
IsIn s name = get s.out name ≡ None

-- no keeper is out
abbrev pub AreWhole : Shelving → Type 0
AreWhole s = s.out ≡ empty

-- the shelves have counted at least the faults of each keeper that is in, and those with which one that is out was given
pub record IsCovered (s : Shelving) : Type 0 where
  pub held : Tells s.held (λ held. (name : List ℕ) → IfSome (get held name) (λ keeper. keeper.faults ≤ s.faults))
  pub out : (name : List ℕ) → IfSome (get s.out name) (λ given. given ≤ s.faults)

-- a keeper was given: the one under the name, and it is out from then on
pub record GivesKeeper (name : List ℕ) (old new : Shelving) (keeper : Keeping) : Type 0 where
  pub is : Tells old.held (λ held. keeper ≡ keeper_under held name)
  pub held : new.held ≡ option_map (λ held. remove held name) old.held
  pub out : new.out ≡ insert old.out name keeper.faults
  pub covered : keeper.faults ≤ new.faults

-- all keepers are where they were
pub record StaysPut (old new : Shelving) : Type 0 where
  pub held : new.held ≡ old.held
  pub out : new.out ≡ old.out

-- what giving a keeper did, by the answer
abbrev pub GiveDoes : {K : Type 0} → (K → Keeping) → List ℕ → Shelving → Shelving → Result K KeeperFault → Type 0
GiveDoes seen name old new (Ok keeper) = GivesKeeper name old new (seen keeper)
GiveDoes seen name old new (Err fault) = StaysPut old new

-- a keeper came back with more faults than those with which it was given: the shelves' count rises, to at least the keeper's.
-- Else it stays
pub record CountsSince (given back before now : ℕ) : Type 0 where
  pub more : Rose given back → Rose before now × (back ≤ now)
  pub no_more : back < one_more given → now ≡ before

-- a keeper was put back under its name
pub record PutsBack (name : List ℕ) (old new : Shelving) (keeper : Keeping) : Type 0 where
  pub held : new.held ≡ option_map (λ held. insert held name keeper) old.held
  pub out : new.out ≡ remove old.out name
  pub counted : (given : ℕ) → get old.out name ≡ Some given → CountsSince given keeper.faults old.faults new.faults
  pub later : old.faults ≤ new.faults
