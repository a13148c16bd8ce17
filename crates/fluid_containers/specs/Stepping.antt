-- What the steps of containers owe, on a desk.
use Rattle.std.specs.Prelude.{◌≡◌, ◌⊎◌, ◌≤◌, ℕ, ⊤, Bool, true, List, [], ◌∷◌, length, Some, None, IfErr, Result, Ok, Err}
use Rattle.std.specs.FinMap.{get}
use Rattle.fluid_json.specs.Printed.{printed}
use Rattle.fluid_codec.specs.Laws.{IsNested}
use Rattle.fluid_edits.specs.declared.edit.Edit.{Edit}
use Rattle.fluid_edits.specs.Forms.{contents_of}
use Rattle.fluid_store.specs.Storing.{Storing}
use Rattle.fluid_loader.specs.Fitting.{most_contents}
use Rattle.fluid_lanes.specs.Opened.{Opened}
use Rattle.fluid_rules.specs.declared.limits.Limits.{Limits}
use Rattle.fluid_lane.specs.Standing.{Standing}
use Rattle.fluid_transcript.specs.World.{World, Document, Effect, Told, Container, container, used_up, grown, ledger_of}
use Rattle.fluid_door_link.specs.declared.fault.LentFault.{LentFault}
use Rattle.fluid_door_link.specs.Failing.{HasCause}
use Rattle.fluid_desk.specs.declared.stop.Stop.{Stop}
use Rattle.fluid_desk.specs.declared.stop.Stop.TheVariants.{NoMemory}
use Rattle.fluid_desk.specs.Stands.{IsLaneOf, DeskStands, StoreStands}
use Rattle.fluid_desk.specs.Stopping.{IsHonest, steps_on, MayStop}
use Rattle.fluid_callers.specs.Ending.{AddsAside}
use Rattle.fluid_containers.specs.Ending.{stop_for}
use Rattle.fluid_containers.specs.Holders.{IsHolderIn, IsHolderOf}
use Rattle.fluid_containers.specs.declared.holder.Holder.{Holder}
use Rattle.fluid_containers.specs.declared.loading.Loaded.{Loaded}
use Rattle.fluid_containers.specs.declared.loading.Loaded.TheVariants.{Held, TurnedAway, NoSummary, BadSummary}

-- where it is known to stand, the desk stands for a world
abbrev pub MayStand : (good : Bool) → Opened → Type 0
MayStand good o = good ≡ true → (w : World) × DeskStands o w

-- the contents of its op aren't nested too deep, and aren't too long, for a record
pub record IsShort (edit : Edit) : Type 0 where
  pub nested : IsNested 98 (contents_of edit)
  pub short : length (printed (contents_of edit)) ≤ most_contents

-- ---- on a desk

-- the desk and the store stand for the world behind the step, in which the name stands for the container as it is then, and the step
-- writes this one line
pub record Stepped (told : Told) (p : List ℕ) (o : Opened) (store : Storing) (h : Holder) (line : List ℕ) : Type 0 where
  pub stands : DeskStands o told.world
  pub held : StoreStands store told.world
  pub now : Container
  pub name : get told.world.names p ≡ Some (container now)
  pub holder : IsHolderOf told.world h now
  pub says : told.lines ≡ line ∷ []

abbrev pub StepDoes : Told → (p : List ℕ) → Opened → Storing → Holder → Result (List ℕ) Stop → Type 0
StepDoes told p o store h (Ok line) = Stepped told p o store h line
StepDoes told p o store h (Err stop) = MayStop told.world o stop

-- what the name stands for behind a load
abbrev pub IsLoaded : World → (p : List ℕ) → Loaded → Type 0
IsLoaded w p (Held h) = (k : Container) × ((get w.names p ≡ Some (container k)) × IsHolderOf w h k)
IsLoaded w p (TurnedAway refusal) = get w.names p ≡ Some used_up
IsLoaded w p NoSummary = get w.names p ≡ Some used_up
IsLoaded w p (BadSummary path) = get w.names p ≡ Some used_up

pub record HasLoaded (told : Told) (p : List ℕ) (o : Opened) (store : Storing) (line : List ℕ) (loaded : Loaded) : Type 0 where
  pub stands : DeskStands o told.world
  pub held : StoreStands store told.world
  pub name : IsLoaded told.world p loaded
  pub says : told.lines ≡ line ∷ []

abbrev pub LoadDoes : Told → (p : List ℕ) → Opened → Storing → Result (List ℕ × Loaded) Stop → Type 0
LoadDoes told p o store (Ok loaded) = HasLoaded told p o store loaded.0 loaded.1
LoadDoes told p o store (Err stop) = MayStop told.world o stop

-- a container that was loaded has submitted nothing yet
abbrev pub IsFresh : Loaded → Type 0
IsFresh (Held h) = h.container.last ≡ 0
IsFresh (TurnedAway refusal) = ⊤
IsFresh NoSummary = ⊤
IsFresh (BadSummary path) = ⊤

-- ---- on the lane of its document

-- a step that changes no name leaves the container as it was
abbrev pub NamedBy : Effect → (p : List ℕ) → (before now : Container) → Type 0
NamedBy e p before now = (e.name ≡ Some (p, container now)) ⊎ ((e.name ≡ None) × (now ≡ before))

-- the lane stands for the document with what the step adds to it, the store holds what the step leaves, the name stands for the
-- container as it is then, and the step writes this one line
pub record LaneStepped (limits : Limits) (e : Effect) (d : Document) (k : Container) (p : List ℕ) (new : Standing) (store : Storing) (h : Holder) (line : List ℕ) : Type 0 where
  pub stands : IsLaneOf limits new (grown e d)
  pub held : store.content ≡ Some e.store
  pub now : Container
  pub name : NamedBy e p k now
  pub same : now.document ≡ k.document
  pub holder : IsHolderIn (ledger_of (grown e d)) e.store h now
  pub says : e.lines ≡ line ∷ []

abbrev pub LaneSteps : Limits → Effect → Document → Container → (p : List ℕ) → Standing → Storing → Holder → Result (List ℕ) Stop → Type 0
LaneSteps limits e d k p new store h (Ok line) = LaneStepped limits e d k p new store h line
LaneSteps limits e d k p new store h (Err stop) = IsHonest (steps_on d new) stop

-- why it ends, on every lane: between the lane and the store as they were and as they are
pub record LaneLinks {A : Type 0} (old new : Standing) (before now : Storing) (result : Result A Stop) : Type 0 where
  pub later : old.keeping.faults ≤ new.keeping.faults
  pub sides : AddsAside old new result
  pub counts : before.faults ≤ now.faults
  pub ends : IfErr result (λ stop. (stop ≡ NoMemory) ⊎ ((fault : LentFault) × ((stop ≡ stop_for fault) × HasCause old new before now fault)))
