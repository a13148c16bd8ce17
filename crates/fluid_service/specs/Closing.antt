-- Closing a service: what the shelves are like that come back.
use Rattle.std.specs.Prelude.{◌≡◌, ◌⊎◌, ◌≤◌, ℕ, true, List, [], ◌++◌, ◌∷◌, length, map, is_some}
use Rattle.std.specs.FinMap.{get}
use Rattle.fluid_log.specs.Keeping.{Keeping}
use Rattle.fluid_log.specs.Shelving.{Shelving, PutsBack}
use Rattle.fluid_rules.specs.declared.limits.Limits.{Limits}
use Rattle.fluid_opening.specs.declared.shelf.ShelfStep.{ShelfStep}
use Rattle.fluid_service.specs.Visiting.{Visiting, name_of, is_among}
use Rattle.fluid_opening.specs.Steps.{is_opened, opened}
use Rattle.fluid_opening.specs.declared.opening.TheConstants.{MOST_DOCUMENTS}
use Rattle.fluid_service.specs.Shelved.{Shelved, IsKeeperKept, AreKept, AreDistinct, AllServed, shelf_terms}
use Rattle.fluid_service.specs.Keys.{Serving}

-- The shelves as they come back from these documents: a keeper that is still out is that of one of them. Those that tell their
-- keepers have kept ones
pub record ComesBackFrom (visits : List Visiting) (old new : Shelving) : Type 0 where
  pub out : (name : List ℕ) → is_some (get new.out name) ≡ true → is_among name (map name_of visits) ≡ true
  pub kept : AreKept new
  pub told : is_some new.held ≡ is_some old.held
  pub later : old.faults ≤ new.faults

abbrev pub ComesBack : Shelved → Shelving → Type 0
ComesBack s new = ComesBackFrom s.visits s.shelving new

-- the same of a service: what is still out was opened, and no more documents were than may be
pub record Closes (service : Serving) (new : Shelving) : Type 0 where
  pub steps : List ShelfStep
  pub few : length (opened steps) ≤ MOST_DOCUMENTS
  pub out : (name : List ℕ) → is_some (get new.out name) ≡ true → is_opened name steps ≡ true
  pub kept : AreKept new
  pub told : is_some new.held ≡ service.fixed.told

-- ---- one after another, for private clauses

-- the keepers of these documents are out
pub record AreOut (s : Shelving) (visits : List Visiting) : Type 0 where
  pub out : (name : List ℕ) → is_among name (map name_of visits) ≡ true → is_some (get s.out name) ≡ true
  pub distinct : AreDistinct (map name_of visits)
  pub limits : Limits
  pub served : AllServed (shelf_terms s limits) visits
  pub kept : AreKept s

-- and no others are
abbrev pub AreOnly : Shelving → List Visiting → Type 0
AreOnly s visits = (name : List ℕ) → is_some (get s.out name) ≡ true → is_among name (map name_of visits) ≡ true

-- a keeper came back under this name, which is kept where the shelves tell their keepers
pub record KeeperComesBack (name : List ℕ) (old new : Shelving) : Type 0 where
  pub keeper : Keeping
  pub back : PutsBack name old new keeper
  pub kept : is_some old.held ≡ true → IsKeeperKept keeper

-- the last document goes: its keeper comes back, or stays out
pub record LastGoes (visits rest : List Visiting) (old new : Shelving) : Type 0 where
  pub visit : Visiting
  pub last : visits ≡ rest ++ visit ∷ []
  pub goes : (new ≡ old) ⊎ KeeperComesBack (name_of visit) old new

abbrev pub OneGoes : List Visiting → List Visiting → Shelving → Shelving → Type 0
OneGoes visits rest old new = ((visits ≡ []) × ((rest ≡ visits) × (new ≡ old))) ⊎ LastGoes visits rest old new
