-- What using a document does: one that isn't open is opened.
use Rattle.std.specs.Prelude.{◌≡◌, ◌⊎◌, ℕ, ◌<◌, ◌≤◌, ⊤, true, false, List, [], ◌∷◌, ◌++◌, Option, Some, None, Result, Ok, Err}
use Rattle.std.specs.FinMap.{get, insert, len, remove}
use Rattle.fluid_io.specs.Causes.{Tells}
use Rattle.fluid_log.specs.Shelving.{PutsBack}
use Rattle.fluid_types.specs.Ledger.{Ledger}
use Rattle.fluid_types.specs.declared.entries.Raw.{Raw}
use Rattle.fluid_rules.specs.Rules.{verdict}
use Rattle.fluid_lane.specs.declared.steps.Step.{Step}
use Rattle.fluid_lane.specs.Steps.{ledger, steps}
use Rattle.fluid_lane.specs.Standing.{Standing, LaneStands}
use Rattle.fluid_lane.specs.Starting.{opening}
use Rattle.fluid_opening.specs.Opening.{Opens, OpenDoes, IsRisen}
use Rattle.fluid_opening.specs.declared.opening.TheConstants.{MOST_DOCUMENTS}
use Rattle.fluid_opening.specs.declared.fault.DoorFault.{DoorFault}
use Rattle.fluid_opening.specs.declared.fault.DoorFault.TheVariants.{TooManyDocuments}
use Rattle.fluid_lanes.specs.Opened.{Opened, with_lane}
use Rattle.fluid_lanes.specs.Closing.{IsLeft}

-- ---- the first use

-- it was opened, and wasn't one too many
pub record OpensNew (name : List ℕ) (moment : ℕ) (old new : Opened) : Type 0 where
  pub room : len old.lanes < MOST_DOCUMENTS
  pub lane : Standing
  pub opens : Opens old.limits name moment old.shelving new.shelving lane
  pub lanes : new.lanes ≡ insert old.lanes name lane
  pub limits : new.limits ≡ old.limits
  pub later : old.shelving.faults ≤ new.shelving.faults

-- one that is open stays so
abbrev pub UsesBy : Option Standing → List ℕ → ℕ → Opened → Opened → Type 0
UsesBy (Some lane) name moment old new = new ≡ old
UsesBy None name moment old new = OpensNew name moment old new

-- it isn't open, and isn't opened: as many are as may be
pub record IsOneTooMany (name : List ℕ) (old new : Opened) (count : ℕ) : Type 0 where
  pub absent : get old.lanes name ≡ None
  pub counted : count ≡ len old.lanes
  pub most : count ≡ MOST_DOCUMENTS
  pub same : new ≡ old

-- or its keeper wasn't given, or its lane not started
pub record FailsToOpen (name : List ℕ) (moment : ℕ) (old new : Opened) (fault : DoorFault) : Type 0 where
  pub absent : get old.lanes name ≡ None
  pub room : len old.lanes < MOST_DOCUMENTS
  pub does : OpenDoes old.limits name moment old.shelving new.shelving (Err fault)
  pub cause : IsRisen old.shelving.faults new.shelving.faults fault
  pub lanes : new.lanes ≡ old.lanes
  pub limits : new.limits ≡ old.limits
  pub later : old.shelving.faults ≤ new.shelving.faults

-- what the use of a document does first, by the answer
abbrev pub Uses : {A : Type 0} → List ℕ → ℕ → Opened → Opened → Result A DoorFault → Type 0
Uses name moment old new (Ok done) = UsesBy (get old.lanes name) name moment old new
Uses name moment old new (Err (TooManyDocuments count)) = IsOneTooMany name old new count
Uses name moment old new (Err fault) = FailsToOpen name moment old new fault

-- the lane that the use of a document finds
pub record Finds (name : List ℕ) (moment : ℕ) (old : Opened) (lane : Standing) : Type 0 where
  pub open_ : Opened
  pub uses : Uses {A = Unit {0}} name moment old open_ (Ok tt)
  pub there : get open_.lanes name ≡ Some lane

-- the documents behind the use of a lane that was left so
pub record LentBy (name : List ℕ) (moment : ℕ) (old new : Opened) (left : Standing) : Type 0 where
  pub open_ : Opened
  pub uses : Uses {A = Unit {0}} name moment old open_ (Ok tt)
  pub becomes : new ≡ with_lane open_ name left

-- behind a fault
abbrev pub LeftBy : {A : Type 0} → List ℕ → ℕ → Opened → Result A DoorFault → Opened → Type 0
LeftBy name moment old (Ok lane) new = ⊤
LeftBy name moment old (Err fault) new = Uses {A = Unit {0}} name moment old new (Err fault)

-- ---- closing one

-- it was closed: what the lane left of its keeper is back under the name
pub record EndsLane (name : List ℕ) (lane : Standing) (old new : Opened) : Type 0 where
  pub back : PutsBack name old.shelving new.shelving lane.keeping
  pub left : IsLeft lane
  pub lanes : new.lanes ≡ remove old.lanes name
  pub limits : new.limits ≡ old.limits

abbrev pub Ends : List ℕ → Option Standing → Opened → Opened → Type 0
Ends name (Some lane) old new = EndsLane name lane old new
Ends name None old new = new ≡ old

-- it was closed, and then opened as at a first use
pub record Reopens {A : Type 0} (name : List ℕ) (moment : ℕ) (old new : Opened) (result : Result A DoorFault) : Type 0 where
  pub closed : Opened
  pub ends : Ends name (get old.lanes name) old closed
  pub uses : Uses name moment closed new result

-- over shelves that tell their keepers, a lane over a keeper that tells its content, which owes no cut, stands for its ledger with a
-- leave of each client that was joined
abbrev pub StandsAgain : List ℕ → ℕ → Opened → Opened → Type 0
StandsAgain name moment old new =
    (before now : Standing) (l : List Step) → get old.lanes name ≡ Some before → get new.lanes name ≡ Some now
    → before.owed ≡ false → LaneStands before l
    → Tells old.shelving.held (λ _. Tells before.keeping.content (λ _. LaneStands now (steps (opening moment (ledger l)))))

-- where it owes a cut, the record of the entry whose append failed may stand behind the ledger
abbrev pub IsLeftWith : Ledger → Ledger → Type 0
IsLeftWith l m = (m ≡ l) ⊎ ((raw : Raw) × (m ≡ l ++ (raw, verdict l raw) ∷ []))

-- the same of a lane that owes a cut: it stands for its ledger, or for that with this one entry more, and the leaves
abbrev pub StandsAgainPerhapsWith : List ℕ → ℕ → Opened → Opened → Type 0
StandsAgainPerhapsWith name moment old new =
    (before now : Standing) (l : List Step) → get old.lanes name ≡ Some before → get new.lanes name ≡ Some now
    → before.owed ≡ true → LaneStands before l
    → Tells old.shelving.held (λ _. Tells before.keeping.content (λ _. (m : Ledger) × (IsLeftWith (ledger l) m × LaneStands now (steps (opening moment m)))))
