-- What became of a lane and a store since they were lent.
use Rattle.std.specs.Prelude.{◌≡◌, ◌≤◌, ◌+◌, Bool, true, false, List, Option, Some, None, is_some, IfSome, refl}
use Rattle.std.specs.Coded.{Coded, code_by, coded×, coded_option}
use Rattle.fluid_store.specs.Storing.{Storing}
use Rattle.fluid_lane.specs.Codes.{standing_code}
use Rattle.fluid_lane.specs.declared.steps.Step.{Step}
use Rattle.fluid_lane.specs.Steps.{stored}
use Rattle.fluid_lane.specs.Standing.{Standing, LaneStands, Goes}
use Rattle.fluid_door_link.specs.Codes.{storing_code}
use Rattle.fluid_door_link.specs.Failing.{HasCause, IsHonest}
use Rattle.fluid_door_link.specs.declared.fault.LentFault.{LentFault}
use Rattle.fluid_door_link.specs.contracts.fault.LentFault as faults

-- the lane went on with these steps, of which none stores a checkpoint
pub record HasGone (began now : Standing) : Type 0 where
  pub added : List Step
  pub goes : Goes began now added
  pub unstored : stored added ≡ 0

-- it stands for a list, over a keeper that tells its content, and no cut is owed
pub record HasStood (began : Standing) : Type 0 where
  pub list : List Step
  pub stands : LaneStands began list
  pub told : is_some began.keeping.content ≡ true
  pub level : began.owed ≡ false

-- a lane and a store as they are, and why a call on them failed, if one did: no other is made then
pub record Along : Type 0 where
  pub lane : Standing
  pub store : Storing
  pub stop : Option LentFault

abbrev pub along_code : Coded Along
along_code =
    code_by (Standing × (Storing × Option LentFault)) (coded× standing_code (coded× storing_code (coded_option faults.the_row.coded))) (λ a. (a.lane, (a.store, a.stop)))
    (λ p. record { lane = p.0; store = p.1.0; stop = p.1.1 }) (λ _. refl)

-- a side step is added only by a call that failed, and no more than one
abbrev pub AddsAside : Option LentFault → (began now : Standing) → Type 0
AddsAside None began now = now.sides ≤ began.sides
AddsAside (Some fault) began now = now.sides ≤ began.sides + 1

-- what became of them, where `good` says that the lane stood for a list as it was lent
pub record IsAlong (good : Bool) (began : Standing) (before : Storing) (a : Along) : Type 0 where
  pub gone : HasGone began a.lane
  pub sides : AddsAside a.stop began a.lane
  pub counts : before.faults ≤ a.store.faults
  pub tells : is_some a.store.content ≡ is_some before.content
  pub stood : good ≡ true → HasStood began
  pub level : a.stop ≡ None → good ≡ true → a.lane.owed ≡ false
  pub honest : good ≡ true → IfSome a.stop IsHonest
  pub cause : IfSome a.stop (HasCause began a.lane before a.store)
