-- The shelf of a service: what it has in hand, and the list of steps for which it stands.
use Rattle.std.specs.Prelude.{◌≡◌, ⊤, ℕ, ◌+◌, ◌≤◌, Bool, true, false, List, [], ◌∷◌, ◌++◌, length, map, Option, Some, None, is_some, IfSome}
use Rattle.std.specs.FinMap.{get}
use Rattle.fluid_io.specs.Causes.{Tells}
use Rattle.fluid_types.specs.Ledger.{Ledger}
use Rattle.fluid_log.specs.declared.keeper.TheConstants.{LONGEST_KEPT}
use Rattle.fluid_log.specs.Keeping.{Content, Keeping, HasLengths}
use Rattle.fluid_log.specs.Shelving.{Shelving, keeper_under}
use Rattle.fluid_types.specs.Forms.{largest}
use Rattle.fluid_document.specs.Kept.{IsKept}
use Rattle.fluid_document.specs.Loading.{newest}
use Rattle.fluid_rules.specs.declared.limits.Limits.{Limits}
use Rattle.fluid_lane.specs.declared.fault.LaneFault.{LaneFault}
use Rattle.fluid_lane.specs.declared.fault.LaneFault.TheVariants as lane
use Rattle.fluid_lane.specs.Starting.{StartsBad}
use Rattle.fluid_doors.specs.Terms.{Doorway}
use Rattle.fluid_opening.specs.declared.opening.TheConstants.{MOST_DOCUMENTS}
use Rattle.fluid_opening.specs.declared.fault.DoorFault.{DoorFault}
use Rattle.fluid_opening.specs.declared.fault.DoorFault.TheVariants.{ShelfFailed, Lane, TooManyDocuments, NoMemory}
use Rattle.fluid_opening.specs.declared.shelf.ShelfStep.{ShelfStep}
use Rattle.fluid_opening.specs.declared.shelf.ShelfStep.TheVariants.{Opened, Failed}
use Rattle.fluid_service.specs.declared.terms.ShelfTerms.{ShelfTerms}
use Rattle.fluid_service.specs.Visiting.{Visiting, name_of, is_among}
use Rattle.fluid_opening.specs.Steps.{opened, failures, last_failure}

-- ---- keepers that are kept

-- the content is what is kept for some ledger
abbrev pub IsContentKept : Content → Type 0
IsContentKept content = (l : Ledger) × IsKept false l content

-- the keeper tells its content, whose lengths it has, and which is kept
pub record IsKeeperKept (keeper : Keeping) : Type 0 where
  pub content : Content
  pub tells : keeper.content ≡ Some content
  pub lengths : HasLengths keeper content
  pub kept : IsContentKept content

-- of shelves that tell their keepers, those that are in are kept
abbrev pub AreKept : Shelving → Type 0
AreKept s = Tells s.held (λ held. (name : List ℕ) → IfSome (get held name) IsKeeperKept)

-- shelves that don't tell their keepers give none that tells what isn't kept
abbrev pub GiveKept : {K : Type 0} → (K → Keeping) → Shelving → Type 0
GiveKept {K} seen s = is_some s.held ≡ false → (keeper : K) → Tells (seen keeper).content IsContentKept

-- ---- the shelf

pub record Shelved : Type 0 where
  pub shelving : Shelving
  -- one of each open document, in the order of their opening
  pub visits : List Visiting
  -- those of each document
  pub limits : Limits
  -- how many openings failed, and the last of them
  pub failed : ℕ
  pub last : Option (List ℕ × DoorFault)

-- what never changes of it
abbrev pub shelf_terms : Shelving → Limits → ShelfTerms
shelf_terms shelving limits = record { limits = limits; told = is_some shelving.held }

abbrev pub terms_of : Shelved → ShelfTerms
terms_of s = shelf_terms s.shelving s.limits

-- no document is open
abbrev pub nothing_open : Shelving → Limits → Shelved
nothing_open shelving limits = record { shelving = shelving; visits = []; limits = limits; failed = 0; last = None }

-- one opening more has failed
abbrev pub with_failure : List ℕ → DoorFault → Shelved → Shelved
with_failure name fault s = record s { failed = s.failed + 1; last = Some (name, fault) }

abbrev pub is_open : List ℕ → Shelved → Bool
is_open name s = is_among name (map name_of s.visits)

-- the door is one of a service with these terms: its document has the limits, and its keeper tells its content where the
-- shelves tell their keepers
pub record IsServed (terms : ShelfTerms) (door : Doorway) : Type 0 where
  pub limits : door.turn.fixed.limits ≡ terms.limits
  pub told : terms.told ≡ true → door.turn.fixed.told ≡ true

abbrev pub AllServed : ShelfTerms → List Visiting → Type 0
AllServed terms [] = ⊤
AllServed terms (visit ∷ visits) = IsServed terms visit.door × AllServed terms visits

-- each name stands once
abbrev pub AreDistinct : List (List ℕ) → Type 0
AreDistinct [] = ⊤
AreDistinct (name ∷ names) = (is_among name names ≡ false) × AreDistinct names

-- what always holds of a shelf
pub record IsShelf (s : Shelved) : Type 0 where
  -- the keepers that are out are those of the open documents
  pub out : (name : List ℕ) → is_some (get s.shelving.out name) ≡ is_open name s
  pub distinct : AreDistinct (map name_of s.visits)
  pub served : AllServed (terms_of s) s.visits
  pub kept : AreKept s.shelving
  pub few : length s.visits ≤ MOST_DOCUMENTS
  pub numbered : s.failed + length s.visits ≤ largest
  pub small : s.limits.bytes ≤ LONGEST_KEPT

-- ---- the list of steps for which it stands

-- starting a lane over this keeper has this fault
abbrev pub IsOfStart : Keeping → LaneFault → Type 0
IsOfStart keeper fault = Tells keeper.content (λ content. StartsBad (newest keeper.checkpoints) content fault)

-- where the shelves tell their keepers, it is a fault of starting a lane over the one under this name
abbrev pub IsStartOf : Shelving → List ℕ → LaneFault → Type 0
IsStartOf s name fault = Tells s.held (λ held. IsOfStart (keeper_under held name) fault)

-- why the opening of a document failed: the shelves' count is at least the one that a note tells, and a fault without a note is
-- one of starting a lane over the document's keeper
abbrev pub FailedSo : Shelving → List ℕ → DoorFault → Type 0
FailedSo s name (ShelfFailed note) = note.after ≤ s.faults
FailedSo s name (Lane (lane.LogFailed note)) = note.after ≤ s.faults
FailedSo s name (Lane (lane.DeltaFailed note)) = note.after ≤ s.faults
FailedSo s name (Lane lane.NoMemory) = ⊥
FailedSo s name (Lane fault) = IsStartOf s name fault
FailedSo s name (TooManyDocuments count) = ⊥
FailedSo s name NoMemory = ⊥

abbrev pub AllFailedSo : Shelving → List ShelfStep → Type 0
AllFailedSo s [] = ⊤
AllFailedSo s (Opened name ∷ steps) = AllFailedSo s steps
AllFailedSo s (Failed name fault ∷ steps) = FailedSo s name fault × AllFailedSo s steps

-- the open documents are those that were opened, in order, and not more than may be; the failures are counted, and the last one is kept
pub record ShelfStands (s : Shelved) (l : List ShelfStep) : Type 0 where
  pub names : map name_of s.visits ≡ opened l
  pub failed : s.failed ≡ failures l
  pub last : s.last ≡ last_failure l
  pub causes : AllFailedSo s.shelving l
  pub few : length (opened l) ≤ MOST_DOCUMENTS

-- the shelf goes on with these steps: what never changes stays, and whatever list it stood for, it stands for that list with
-- these steps
pub record Continues (old new : Shelved) (added : List ShelfStep) : Type 0 where
  pub terms : terms_of new ≡ terms_of old
  pub list : (l : List ShelfStep) → ShelfStands old l → ShelfStands new (l ++ added)
