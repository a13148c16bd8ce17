-- What is done about a summary that is pending.
use Rattle.std.specs.Prelude.{◌≡◌, ◌⊎◌, ⊤, ℕ, Bool, true, List, [], Option, Some, None, Result, Ok, Err}
use Rattle.fluid_types.specs.Ledger.{order}
use Rattle.fluid_types.specs.declared.entries.Raw.TheVariants.{Report}
use Rattle.fluid_types.specs.declared.verdicts.Verdict.{Verdict}
use Rattle.fluid_rules.specs.Rules.{IsLegal}
use Rattle.fluid_scribe.specs.Jobs.{job}
use Rattle.fluid_scribe.specs.declared.job.Job.{Job}
use Rattle.fluid_store.specs.Storing.{Storing}
use Rattle.fluid_store.specs.declared.fault.StoreFault.{StoreFault}
use Rattle.fluid_store.specs.declared.fault.StoreFault.TheVariants as store
use Rattle.fluid_versions.specs.Versions.{PutsVersion}
use Rattle.fluid_lane.specs.declared.fault.LaneFault.{LaneFault}
use Rattle.fluid_lane.specs.declared.fault.LaneFault.TheVariants as lane
use Rattle.fluid_lane.specs.declared.steps.Step.{Step}
use Rattle.fluid_lane.specs.Steps.{ledger, steps_of, entered_by}
use Rattle.fluid_doors.specs.declared.bench.Terms.{Terms}
use Rattle.fluid_doors.specs.declared.ends.ScribeEnd.{ScribeEnd}
use Rattle.fluid_doors.specs.declared.ends.ScribeEnd.TheVariants.{Idle, Concluded}
use Rattle.fluid_doors.specs.declared.ends.ScribeFault.{ScribeFault}
use Rattle.fluid_doors.specs.declared.ends.ScribeFault.TheVariants.{Store, Lane, NoMemory}
use Rattle.fluid_doors.specs.Passing.{APass, Grows}
use Rattle.fluid_doors.specs.Entering.{Reports}

-- the ledger's job, where the keeper tells its content
pub record IsJobOf (t : Terms) (given : Option Job) (l : List Step) : Type 0 where
  pub told : t.told ≡ true → IsLegal (ledger l) × (given ≡ job (order (ledger l)))

-- The document was looked at first, and had this job; then the store, whose objects were put; then a report was entered, whose
-- answer is this one. Between the first and the last others may have had the turn
pub record Concludes (t : Terms) (p q : APass) (moment : ℕ) (old new : Storing) (answer : Result Verdict LaneFault) : Type 0 where
  pub mid : APass
  pub pending : Job
  pub found : Bool
  pub looks : Grows p mid [] (IsJobOf t (Some pending))
  pub puts : PutsVersion pending old new (Ok found)
  pub reports : Grows mid q (steps_of (entered_by (Report pending.summary found moment)) answer) (Reports t (Report pending.summary found moment) answer)

-- the document had this job, and the store refused its objects; nothing was entered
pub record IsRefused (t : Terms) (p q : APass) (old new : Storing) (fault : StoreFault) : Type 0 where
  pub pending : Job
  pub looks : Grows p q [] (IsJobOf t (Some pending))
  pub puts : PutsVersion pending old new (Err fault)

-- a fault of the lane, and of the store, but that want of memory is one of its own
abbrev pub of_lane : LaneFault → ScribeFault
of_lane lane.NoMemory = NoMemory
of_lane fault = Lane fault

abbrev pub of_store : StoreFault → ScribeFault
of_store (store.StoreFailed note) = Store (store.StoreFailed note)
of_store (store.Clash id kept bytes) = Store (store.Clash id kept bytes)
of_store (store.Missing id) = Store (store.Missing id)
of_store (store.BadObject id place) = Store (store.BadObject id place)
of_store (store.Tree fault) = Store (store.Tree fault)
of_store (store.NoPath path) = Store (store.NoPath path)
of_store store.NoMemory = NoMemory

-- what a store refuses is that it failed, or that other bytes are held under the id of an object
abbrev pub IsOfStore : StoreFault → Type 0
IsOfStore (store.StoreFailed note) = ⊤
IsOfStore (store.Clash id kept bytes) = ⊤
IsOfStore other = ⊥

-- of a lane memory is never said to be wanting
abbrev pub IsOfLane : LaneFault → Type 0
IsOfLane lane.NoMemory = ⊥
IsOfLane other = ⊤

-- idle is answered exactly where no summary is pending. Nothing is entered where the store refuses, and for want of memory: that
-- was wanting before the store was asked, or as its objects were put, or behind that as the report was to be entered
abbrev pub Scribes : Terms → APass → APass → ℕ → Storing → Storing → Result ScribeEnd ScribeFault → Type 0
Scribes t p q moment old new (Ok Idle) = Grows p q [] (IsJobOf t None) × (new ≡ old)
Scribes t p q moment old new (Ok (Concluded verdict)) = Concludes t p q moment old new (Ok verdict)
Scribes t p q moment old new (Err (Lane fault)) = Concludes t p q moment old new (Err fault) × IsOfLane fault
Scribes t p q moment old new (Err (Store fault)) = IsRefused t p q old new fault × IsOfStore fault
Scribes t p q moment old new (Err NoMemory) =
    (Grows p q [] (λ l. ⊤) × (new ≡ old)) ⊎ (IsRefused t p q old new store.NoMemory ⊎ Concludes t p q moment old new (Err lane.NoMemory))
