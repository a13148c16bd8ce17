-- What the steps of roamers owe, on the lane of a roamer's document and on a desk.
use Rattle.std.specs.Prelude.{◌≡◌, ◌⊎◌, ℕ, ⊤, List, [], ◌∷◌, Option, Some, None, Result, Ok, Err}
use Rattle.std.specs.FinMap.{get}
use Rattle.fluid_rules.specs.declared.limits.Limits.{Limits}
use Rattle.fluid_runtime.specs.declared.fault.EditFault.{EditFault}
use Rattle.fluid_runtime.specs.declared.fault.EditFault.TheVariants as edits
use Rattle.fluid_lane.specs.Standing.{Standing}
use Rattle.fluid_lanes.specs.Opened.{Opened}
use Rattle.fluid_voice.specs.declared.refusals.ConnectRefusal.{ConnectRefusal}
use Rattle.fluid_voice.specs.declared.refusals.ConnectRefusal.TheVariants.{TooManyDocuments}
use Rattle.fluid_transcript.specs.World.{World, Document, Effect, Told, Roamer as ARoamer, roamer, used_up, grown, ledger_of}
use Rattle.fluid_transcript.specs.Lines.{turned_away_line, edit_fault_line}
use Rattle.fluid_desk.specs.declared.stop.Stop.{Stop}
use Rattle.fluid_desk.specs.declared.stop.Stop.TheVariants.{NoMemory}
use Rattle.fluid_desk.specs.Acting.{IsLine}
use Rattle.fluid_desk.specs.Stands.{IsLaneOf, DeskStands}
use Rattle.fluid_desk.specs.Stopping.{IsHonest, steps_on, MayStop}
use Rattle.fluid_roamers.specs.Roaming.{IsRoamerIn, IsRoamerOf}
use Rattle.fluid_roamers.specs.Taking.{IsSendable}
use Rattle.fluid_roamers.specs.declared.roamer.Roamer.{Roamer}

-- ---- on the lane of its document

-- a step that changes no name leaves the roamer as it was
abbrev pub NamedBy : Effect → (r : List ℕ) → (before now : ARoamer) → Type 0
NamedBy e r before now = (e.name ≡ Some (r, roamer now)) ⊎ ((e.name ≡ None) × (now ≡ before))

-- the lane stands for the document with what the step adds to it, the name stands for the roamer as it is then, and the step writes this
-- one line
pub record LaneStepped (limits : Limits) (e : Effect) (d : Document) (k : ARoamer) (r : List ℕ) (new : Standing) (h : Roamer) (line : List ℕ) : Type 0 where
  pub stands : IsLaneOf limits new (grown e d)
  pub now : ARoamer
  pub name : NamedBy e r k now
  pub same : now.client.document ≡ k.client.document
  pub roams : IsRoamerIn (ledger_of (grown e d)) h now
  pub says : e.lines ≡ line ∷ []

abbrev pub LaneSteps : Limits → Effect → Document → ARoamer → (r : List ℕ) → Standing → Roamer → Result (List ℕ) Stop → Type 0
LaneSteps limits e d k r new h (Ok line) = LaneStepped limits e d k r new h line
LaneSteps limits e d k r new h (Err stop) = IsHonest (steps_on (grown e d) new) stop

-- behind a `roam`: the name stands for a roamer, or it is used up
abbrev pub BeginsAs : Effect → (r name : List ℕ) → Document → Option Roamer → Type 0
BeginsAs e r name d (Some h) = (k : ARoamer) × ((e.name ≡ Some (r, roamer k)) × ((k.client.document ≡ name) × IsRoamerIn (ledger_of (grown e d)) h k))
BeginsAs e r name d None = e.name ≡ Some (r, used_up)

pub record LaneRoamed (limits : Limits) (e : Effect) (d : Document) (r name : List ℕ) (new : Standing) (line : List ℕ) (made : Option Roamer) : Type 0 where
  pub stands : IsLaneOf limits new (grown e d)
  pub begins : BeginsAs e r name d made
  pub says : e.lines ≡ line ∷ []

abbrev pub LaneRoams : Limits → Effect → Document → (r name : List ℕ) → Standing → Result (List ℕ × Option Roamer) Stop → Type 0
LaneRoams limits e d r name new (Ok made) = LaneRoamed limits e d r name new made.0 made.1
LaneRoams limits e d r name new (Err stop) = IsHonest (steps_on (grown e d) new) stop

-- a roamer that was made is kept
abbrev pub IsSendableIf : Option Roamer → Type 0
IsSendableIf None = ⊤
IsSendableIf (Some h) = IsSendable h.outbox

-- an edit wasn't laid over: its fault is written, but for want of memory
abbrev pub IsUnsaid : (r : List ℕ) → EditFault → Result (List ℕ) Stop → Type 0
IsUnsaid r edits.NoMemory result = result ≡ Err NoMemory
IsUnsaid r fault result = IsLine (edit_fault_line r fault) result

-- nobody joined, for this reason
abbrev pub IsRefusedFor : (r : List ℕ) → ConnectRefusal → Result (List ℕ × Option Roamer) Stop → Type 0
IsRefusedFor r refusal (Ok made) = (made.0 ≡ turned_away_line r refusal) × (made.1 ≡ None)
IsRefusedFor r refusal (Err stop) = stop ≡ NoMemory

-- nobody joined, since as many documents are open as may be
abbrev pub IsTurnedAway : (r : List ℕ) → Result (List ℕ × Option Roamer) Stop → Type 0
IsTurnedAway r result = IsRefusedFor r TooManyDocuments result

-- ---- on a desk

-- the desk stands for the world behind the step, in which the name stands for the roamer as it is then, and the step writes this one line
pub record Stepped (told : Told) (r : List ℕ) (o : Opened) (h : Roamer) (line : List ℕ) : Type 0 where
  pub stands : DeskStands o told.world
  pub now : ARoamer
  pub name : get told.world.names r ≡ Some (roamer now)
  pub roams : IsRoamerOf told.world h now
  pub says : told.lines ≡ line ∷ []

abbrev pub StepDoes : Told → (r : List ℕ) → Opened → Roamer → Result (List ℕ) Stop → Type 0
StepDoes told r o h (Ok line) = Stepped told r o h line
StepDoes told r o h (Err stop) = MayStop told.world o stop

-- what the name stands for behind a `roam`
abbrev pub IsNamedIn : World → (r : List ℕ) → Option Roamer → Type 0
IsNamedIn w r (Some h) = (k : ARoamer) × ((get w.names r ≡ Some (roamer k)) × IsRoamerOf w h k)
IsNamedIn w r None = get w.names r ≡ Some used_up

pub record HasRoamed (told : Told) (r : List ℕ) (o : Opened) (line : List ℕ) (made : Option Roamer) : Type 0 where
  pub stands : DeskStands o told.world
  pub name : IsNamedIn told.world r made
  pub says : told.lines ≡ line ∷ []

abbrev pub RoamDoes : Told → (r : List ℕ) → Opened → Result (List ℕ × Option Roamer) Stop → Type 0
RoamDoes told r o (Ok made) = HasRoamed told r o made.0 made.1
RoamDoes told r o (Err stop) = MayStop told.world o stop
