-- A workload from its beginning to its end.
use Rattle.std.specs.Prelude.{◌≡◌, ◌*◌, ℕ, ⊤, Bool, true, false, List, [], ◌∷◌, length, Result, Ok, Err}
use Rattle.std.specs.FinMap.{empty}
use Rattle.fluid_io.specs.Causes.{Rose}
use Rattle.fluid_io.specs.Streams.{Writing, Appends, AppendsPrefix}
use Rattle.fluid_store.specs.Storing.{Storing}
use Rattle.fluid_lanes.specs.Opened.{Opened}
use Rattle.fluid_gen.specs.declared.act.Act.{Act}
use Rattle.fluid_gen.specs.declared.act.Act.TheVariants.{Begin}
use Rattle.fluid_desk.specs.declared.stop.Stop.{Stop}
use Rattle.fluid_world.specs.Ending.{end_for}
use Rattle.fluid_world.specs.declared.ends.ScriptEnd.{ScriptEnd}
use Rattle.fluid_world.specs.declared.ends.ScriptEnd.TheVariants.{Done, WriteFault, NoMemory}
use Rattle.fluid_load.specs.Standing.{AtWork, Works}
use Rattle.fluid_load.specs.Acting.{acted, acted_all}

-- nothing was done yet
abbrev pub IsBegun : Opened → Storing → (good : Bool) → AtWork → Type 0
IsBegun lanes store good s = s ≡ record { lanes = lanes; store = store; names = empty; sent = empty; tally = record { absorbed = 0; nacked = 0 }; good = good }

-- the first act is that the document begins
pub record IsBeginning (acts : List Act) : Type 0 where
  pub rest : List Act
  pub is : acts ≡ Begin ∷ rest

-- one act was done, and these are left
pub record DidNext (old new : List Act) (a b : AtWork) : Type 0 where
  pub act : Act
  pub is : old ≡ act ∷ new
  pub works : Works 5 (acted act) a b (Ok tt)

-- none was left
pub record DidNone (old : List Act) (a b : AtWork) : Type 0 where
  pub none : old ≡ []
  pub same : b ≡ a

abbrev pub DoesNext : (old new : List Act) → (a b : AtWork) → Result Bool Stop → Type 0
DoesNext old new a b (Ok true) = DidNext old new a b
DoesNext old new a b (Ok false) = DidNone old a b
DoesNext old new a b (Err stop) = Works (5 * length old) (acted_all old) a b (Err stop)

-- these bytes are written, or a beginning of them where the sink fails
abbrev pub SaysAll : List ℕ → (old new : Writing) → ScriptEnd → Type 0
SaysAll bytes old new Done = Appends bytes old.written new.written
SaysAll bytes old new WriteFault = AppendsPrefix bytes old.written new.written
SaysAll bytes old new NoMemory = new ≡ old
SaysAll bytes old new end = ⊥

-- whatever is written, the sink fails where it says so
abbrev pub Concludes : (old new : Writing) → ScriptEnd → Type 0
Concludes old new Done = new.faults ≡ old.faults
Concludes old new WriteFault = Rose old.faults new.faults
Concludes old new NoMemory = new ≡ old
Concludes old new end = ⊥

-- where a part ended it the sink stays as it was
abbrev pub Finishes : Result (Unit {0}) Stop → (old new : Writing) → ScriptEnd → Type 0
Finishes (Ok done) old new end = Concludes old new end
Finishes (Err stop) old new end = (end ≡ end_for stop) × (new ≡ old)

-- where none did, all of these bytes are said
abbrev pub FinishesBy : Result (Unit {0}) Stop → List ℕ → (old new : Writing) → ScriptEnd → Type 0
FinishesBy (Ok done) bytes old new end = SaysAll bytes old new end
FinishesBy (Err stop) bytes old new end = ⊤
