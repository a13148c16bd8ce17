-- What is done for a document at a hint.
use Rattle.std.specs.Prelude.{◌≡◌, ⊤, ℕ, Bool, true, false, List, [], ◌∷◌, Option, Some, None, Result, Ok, Err}
use Rattle.fluid_types.specs.declared.verdicts.Verdict.{Verdict}
use Rattle.fluid_store.specs.Storing.{Storing}
use Rattle.fluid_lane.specs.declared.fault.LaneFault.{LaneFault}
use Rattle.fluid_lane.specs.Steps.{steps_of, stored_by, restarted_by}
use Rattle.fluid_doors.specs.declared.bench.Terms.{Terms}
use Rattle.fluid_doors.specs.declared.ends.ScribeEnd.{ScribeEnd}
use Rattle.fluid_doors.specs.declared.ends.ScribeEnd.TheVariants.{Idle, Concluded}
use Rattle.fluid_doors.specs.declared.ends.ScribeFault.{ScribeFault}
use Rattle.fluid_doors.specs.Passing.{APass, Grows}
use Rattle.fluid_doors.specs.Entering.{swept_as}
use Rattle.fluid_doors.specs.Entering as entering
use Rattle.fluid_doors.specs.Scribing.{Scribes}
use Rattle.fluid_doors.specs.Storing.{Checkpoints, Restarts}
use Rattle.fluid_worker.specs.declared.tending.TheConstants.{SILENCE}

-- ---- a checkpoint, and a restart from it

-- the document was restarted from the checkpoint of this number, or the restart was refused; without a checkpoint nothing was done
abbrev pub RestartsBy : Terms → APass → APass → Result ℕ LaneFault → Type 0
RestartsBy t p q (Ok number) = (answer : Result (Unit {0}) LaneFault) × Grows p q (steps_of (restarted_by number) answer) (Restarts t number answer)
RestartsBy t p q (Err fault) = q ≡ p

pub record Renews (t : Terms) (p q : APass) : Type 0 where
  pub mid : APass
  pub stored : Result ℕ LaneFault
  pub stores : Grows p mid (steps_of stored_by stored) (Checkpoints t stored)
  pub restarts : RestartsBy t mid q stored

-- whether a report was entered
abbrev pub is_concluded : Result ScribeEnd ScribeFault → Bool
is_concluded (Ok Idle) = false
is_concluded (Ok (Concluded verdict)) = true
is_concluded (Err fault) = false

-- both come behind a report that was entered, and nowhere else
abbrev pub RenewsWhere : Terms → APass → APass → Bool → Type 0
RenewsWhere t p q true = Renews t p q
RenewsWhere t p q false = q ≡ p

-- ---- who was silent for too long

-- one call for whoever was silent
pub record SweepsOne (t : Terms) (p q : APass) (moment : ℕ) (answer : Result (Option (List ℕ)) LaneFault) : Type 0 where
  pub verdict : Verdict
  pub grows : Grows p q (steps_of (swept_as moment verdict) answer) (entering.Sweeps t moment SILENCE verdict answer)

-- these clients were taken out, one after another
abbrev pub SweepsThese : Terms → APass → APass → ℕ → List (List ℕ) → Type 0
SweepsThese t p q moment [] = q ≡ p
SweepsThese t p q moment (id ∷ ids) = (mid : APass) × (SweepsOne t p mid moment (Ok (Some id)) × SweepsThese t mid q moment ids)

-- whether somebody was taken out; else nobody is left, or the call was refused
abbrev pub is_swept : Result (Option (List ℕ)) LaneFault → Bool
is_swept (Ok None) = false
is_swept (Ok (Some id)) = true
is_swept (Err fault) = false

-- one call, and whether it took somebody out
pub record SweepsBy (t : Terms) (p q : APass) (moment : ℕ) (swept : Bool) : Type 0 where
  pub answer : Result (Option (List ℕ)) LaneFault
  pub one : SweepsOne t p q moment answer
  pub swept_is : swept ≡ is_swept answer

-- clients were taken out until nobody was left, or a call was refused
pub record Sweeps (t : Terms) (p q : APass) (moment : ℕ) : Type 0 where
  pub ids : List (List ℕ)
  pub mid : APass
  pub these : SweepsThese t p mid moment ids
  pub last : SweepsBy t mid q moment false

-- ---- all of it

-- the scribe's call first; behind a report that was entered a checkpoint and a restart; and then the sweep
pub record Tends (t : Terms) (p q : APass) (moment : ℕ) (old new : Storing) : Type 0 where
  pub scribed : APass
  pub answer : Result ScribeEnd ScribeFault
  pub scribes : Scribes t p scribed moment old new answer
  pub renewed : APass
  pub renews : RenewsWhere t scribed renewed (is_concluded answer)
  pub sweeps : Sweeps t renewed q moment
