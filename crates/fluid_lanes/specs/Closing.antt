-- Closing all documents: each keeper is back under its name, as its lane left it.
use Rattle.std.specs.Prelude.{◌≡◌, ◌⊎◌, ℕ, ◌<◌, ◌≤◌, ⊤, List, Option, Some, None}
use Rattle.std.specs.Option.{option_map, option_or}
use Rattle.std.specs.FinMap.{FinMap, empty, get, remove}
use Rattle.fluid_io.specs.Causes.{Rose, Tells, one_more}
use Rattle.fluid_table.specs.Table.{Values}
use Rattle.fluid_log.specs.Keeping.{Keeping}
use Rattle.fluid_log.specs.Shelving.{Shelving, AreWhole, PutsBack, byte_order}
use Rattle.fluid_lane.specs.declared.steps.Step.{Step}
use Rattle.fluid_lane.specs.Steps.{ledger}
use Rattle.fluid_lane.specs.Standing.{Standing, LaneStands, IsLeftFor}
use Rattle.fluid_lanes.specs.Opened.{Opened}

-- the keeper under a name: what its lane left, where the document was open, and else what was there
abbrev pub kept_under : Values Standing → FinMap byte_order Keeping → List ℕ → Option Keeping
kept_under lanes held name = option_or (option_map (λ (lane : Standing). lane.keeping) (get lanes name)) (get held name)

-- what the shelves tell of their keepers
abbrev pub HeldBehind : Values Standing → Option (FinMap byte_order Keeping) → Option (FinMap byte_order Keeping) → Type 0
HeldBehind lanes (Some held) (Some back) = (name : List ℕ) → get back name ≡ kept_under lanes held name
HeldBehind lanes None None = ⊤
HeldBehind lanes old new = ⊥

-- a keeper failed while it was out
pub record HasFailed (lanes : Values Standing) (shelving : Shelving) (name : List ℕ) : Type 0 where
  pub lane : Standing
  pub open_ : get lanes name ≡ Some lane
  pub given : ℕ
  pub out : get shelving.out name ≡ Some given
  pub rose : Rose given lane.keeping.faults

-- none of them did
abbrev pub NoneFailed : Values Standing → Shelving → Type 0
NoneFailed lanes shelving =
    (name : List ℕ) (lane : Standing) (given : ℕ) → get lanes name ≡ Some lane → get shelving.out name ≡ Some given → lane.keeping.faults < one_more given

-- a keeper that tells its content is left for what its lane stood for, but for a cut that is owed: a lane can be started over it
abbrev pub IsLeft : Standing → Type 0
IsLeft lane = (l : List Step) → LaneStands lane l → Tells lane.keeping.content (IsLeftFor lane.owed (ledger l))

-- all keepers came back
pub record AllComeBack (lanes : Values Standing) (old new : Shelving) : Type 0 where
  pub whole : AreWhole new
  pub held : HeldBehind lanes old.held new.held
  pub left : (name : List ℕ) (lane : Standing) → get lanes name ≡ Some lane → IsLeft lane
  -- the shelves' count tells of each that failed, and is at least that one's; where none did it stays
  pub counted : (name : List ℕ) → HasFailed lanes old name → Rose old.faults new.faults
  pub covered : (name : List ℕ) → (failed : HasFailed lanes old name) → failed.lane.keeping.faults ≤ new.faults
  pub quiet : NoneFailed lanes old → new.faults ≡ old.faults
  pub later : old.faults ≤ new.faults

abbrev pub Closes : Opened → Shelving → Type 0
Closes o new = AllComeBack o.lanes o.shelving new

-- ---- one after another, for private clauses

-- the keeper of this document came back
pub record ComesBack (lanes rest : Values Standing) (old new : Shelving) : Type 0 where
  pub name : List ℕ
  pub lane : Standing
  pub there : get lanes name ≡ Some lane
  pub rest_is : rest ≡ remove lanes name
  pub back : PutsBack name old new lane.keeping
  pub left : IsLeft lane

-- that of some document, where one is open
abbrev pub OneComesBack : Values Standing → Values Standing → Shelving → Shelving → Type 0
OneComesBack lanes rest old new = ((lanes ≡ empty) × ((rest ≡ lanes) × (new ≡ old))) ⊎ ComesBack lanes rest old new
