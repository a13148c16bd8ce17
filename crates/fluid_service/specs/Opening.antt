-- How a document is opened on a shelf.
use Rattle.std.specs.Prelude.{◌≡◌, ⊤, ℕ, ◌≤◌, List, [], ◌∷◌, ◌++◌, is_some, Result, Ok, Err}
use Rattle.fluid_turn.specs.Entries.{of_nobody}
use Rattle.fluid_turn.specs.Seats.{IsNew}
use Rattle.fluid_log.specs.Shelving.{Shelving}
use Rattle.fluid_lane.specs.declared.fault.LaneFault.{LaneFault}
use Rattle.fluid_lane.specs.Standing.{Standing, LaneStands}
use Rattle.fluid_doors.specs.Terms.{terms_of}
use Rattle.fluid_opening.specs.Opening.{Opens, OpenDoes}
use Rattle.fluid_opening.specs.declared.fault.DoorFault.{DoorFault}
use Rattle.fluid_opening.specs.declared.fault.DoorFault.TheVariants.{TooManyDocuments, NoMemory}
use Rattle.fluid_service.specs.Visiting.{Visiting, IsSplitOf}
use Rattle.fluid_service.specs.Shelved.{Shelved, shelf_terms, IsServed, IsStartOf, FailedSo}
use Rattle.fluid_opening.specs.Steps.{IsOpeningFault}

-- the door is one of this lane: its turn begins with a list of steps for which the lane stands
pub record IsDoorOf (name : List ℕ) (lane : Standing) (visit : Visiting) : Type 0 where
  pub name_is : visit.door.name ≡ name
  pub fixed : visit.door.turn.fixed ≡ terms_of lane
  pub stands : LaneStands lane visit.door.turn.began
  pub new : IsNew (of_nobody visit.door.turn.began) visit.pass

-- so are both, of one door
abbrev pub AreDoorOf : List ℕ → Standing → Visiting × Visiting → Type 0
AreDoorOf name lane (first, second) = IsDoorOf name lane first × IsSplitOf first second

-- the keeper was given, a lane was started over it, and the visit is one of it
pub record OpensVisit (name : List ℕ) (moment : ℕ) (old new : Shelved) (visit : Visiting) : Type 0 where
  pub lane : Standing
  pub opens : Opens old.limits name moment old.shelving new.shelving lane
  pub door : IsDoorOf name lane visit

-- what an opening did, by its answer
abbrev pub OpensBy : List ℕ → ℕ → Shelved → Shelved → Result Visiting DoorFault → Type 0
OpensBy name moment old new (Ok visit) = OpensVisit name moment old new visit
OpensBy name moment old new (Err NoMemory) = ⊤
OpensBy name moment old new (Err fault) = OpenDoes old.limits name moment old.shelving new.shelving (Err fault)

-- ---- for private clauses

-- the shelves go on: whether they tell their keepers stays, their count doesn't fall, and a keeper over which a lane can't be
-- started is one over which it can't be still
pub record GoesOn (old new : Shelving) : Type 0 where
  pub told : is_some new.held ≡ is_some old.held
  pub later : old.faults ≤ new.faults
  pub starts : (name : List ℕ) (fault : LaneFault) → IsStartOf old name fault → IsStartOf new name fault

-- a visit of the new door is kept, and another one given
pub record KeepsVisit (name : List ℕ) (moment : ℕ) (old new : Shelved) (visit : Visiting) : Type 0 where
  pub own : Visiting
  pub opens : OpensVisit name moment old new own
  pub split : IsSplitOf own visit
  pub served : IsServed (shelf_terms old.shelving old.limits) own.door
  pub becomes : new ≡ record old { shelving = new.shelving; visits = old.visits ++ own ∷ [] }

-- nothing but the shelves changed
abbrev pub KeepsRest : Shelved → Shelved → Type 0
KeepsRest old new = new ≡ record old { shelving = new.shelving }

-- the opening failed so
pub record FailsToStart (name : List ℕ) (moment : ℕ) (old new : Shelved) (fault : DoorFault) : Type 0 where
  pub does : OpenDoes old.limits name moment old.shelving new.shelving (Err fault)
  pub cause : FailedSo new.shelving name fault
  pub may : IsOpeningFault (shelf_terms old.shelving old.limits).told fault
  pub rest : KeepsRest old new

abbrev pub StartsVisit : List ℕ → ℕ → Shelved → Shelved → Result Visiting DoorFault → Type 0
StartsVisit name moment old new (Ok visit) = KeepsVisit name moment old new visit
StartsVisit name moment old new (Err (TooManyDocuments count)) = ⊥
StartsVisit name moment old new (Err NoMemory) = KeepsRest old new
StartsVisit name moment old new (Err fault) = FailsToStart name moment old new fault
