-- Which step the names of a script refuse, and what bounds there are for what they stand for.
use Rattle.std.specs.Prelude.{◌≡◌, ◌≤◌, ℕ, ⊤, Bool, true, false, not, if◌then◌else◌, List, length, Option, Some, None, is_some, Ok}
use Rattle.std.specs.FinMap.{get}
use Rattle.fluid_table.specs.Table.{Values}
use Rattle.fluid_readback.specs.Laws.{longest_text}
use Rattle.fluid_steps.specs.declared.steps.Step.{Step}
use Rattle.fluid_steps.specs.declared.steps.Step.TheVariants.{Send, Collect, Close, Scribe, Checkpoint, Restart, Reopen, Sweep, Count, Tasks, Load, Pump, Edit, Beat, Summarize, Show, Roam, Say, Lose, Back, Acked}
use Rattle.fluid_steps.specs.declared.refusal.LineWhy.{LineWhy}
use Rattle.fluid_steps.specs.declared.refusal.LineWhy.TheVariants.{NameInUse, UnknownName}
use Rattle.fluid_transcript.specs.Steps.{refusal_of_edit}
use Rattle.fluid_containers.specs.Stepping.{IsShort}
use Rattle.fluid_containers.specs.declared.loading.Loaded.{Loaded}
use Rattle.fluid_containers.specs.declared.loading.Loaded.TheVariants as load
use Rattle.fluid_outbox.specs.Kept.{id_of}
use Rattle.fluid_roamers.specs.Taking.{IsSendable}
use Rattle.fluid_roamers.specs.declared.roamer.Roamer.{Roamer}
use Rattle.fluid_world.specs.declared.named.Named.{Named}
use Rattle.fluid_world.specs.declared.named.Named.TheVariants as a

-- ---- refusals

-- a name for a connection, which may be new
abbrev pub sender_refusal : Option Named → Option LineWhy
sender_refusal None = None
sender_refusal (Some (a.Connection voice)) = None
sender_refusal (Some (a.Container holder)) = Some UnknownName
sender_refusal (Some (a.Roamer roamer)) = Some UnknownName
sender_refusal (Some a.Used) = Some UnknownName

-- one that is a connection
abbrev pub connection_refusal : Option Named → Option LineWhy
connection_refusal None = Some UnknownName
connection_refusal (Some (a.Connection voice)) = None
connection_refusal (Some (a.Container holder)) = Some UnknownName
connection_refusal (Some (a.Roamer roamer)) = Some UnknownName
connection_refusal (Some a.Used) = Some UnknownName

-- one that is a container
abbrev pub container_refusal : Option Named → Option LineWhy
container_refusal None = Some UnknownName
container_refusal (Some (a.Connection voice)) = Some UnknownName
container_refusal (Some (a.Container holder)) = None
container_refusal (Some (a.Roamer roamer)) = Some UnknownName
container_refusal (Some a.Used) = Some UnknownName

-- one that is a roamer
abbrev pub roamer_refusal : Option Named → Option LineWhy
roamer_refusal None = Some UnknownName
roamer_refusal (Some (a.Connection voice)) = Some UnknownName
roamer_refusal (Some (a.Container holder)) = Some UnknownName
roamer_refusal (Some (a.Roamer roamer)) = None
roamer_refusal (Some a.Used) = Some UnknownName

-- one that is a roamer which is lost, or one which isn't, as is wanted
abbrev pub is_lost : Roamer → Bool
is_lost roamer = not (is_some (id_of roamer.outbox.current))

abbrev pub refused_if_other : (wanted lost : Bool) → Option LineWhy
refused_if_other true lost = if lost then None else Some UnknownName
refused_if_other false lost = if lost then Some UnknownName else None

abbrev pub lost_refusal : (wanted : Bool) → Option Named → Option LineWhy
lost_refusal wanted None = Some UnknownName
lost_refusal wanted (Some (a.Connection voice)) = Some UnknownName
lost_refusal wanted (Some (a.Container holder)) = Some UnknownName
lost_refusal wanted (Some (a.Roamer roamer)) = refused_if_other wanted (is_lost roamer)
lost_refusal wanted (Some a.Used) = Some UnknownName

-- one that is a container or a roamer
abbrev pub shown_refusal : Option Named → Option LineWhy
shown_refusal None = Some UnknownName
shown_refusal (Some (a.Connection voice)) = Some UnknownName
shown_refusal (Some (a.Container holder)) = None
shown_refusal (Some (a.Roamer roamer)) = None
shown_refusal (Some a.Used) = Some UnknownName

-- one that was never given
abbrev pub new_refusal : Option Named → Option LineWhy
new_refusal None = None
new_refusal (Some named) = Some NameInUse

-- why a step is refused, by what its name stands for
abbrev pub refusal_by : Values Named → Step → Option LineWhy
refusal_by names (Send c text) = sender_refusal (get names c)
refusal_by names (Collect c) = connection_refusal (get names c)
refusal_by names (Close c) = connection_refusal (get names c)
refusal_by names (Scribe name) = None
refusal_by names (Checkpoint name) = None
refusal_by names (Restart name checkpoint) = None
refusal_by names (Reopen name) = None
refusal_by names (Sweep name silence) = None
refusal_by names (Count name) = None
refusal_by names (Tasks name) = None
refusal_by names (Load p name pick) = new_refusal (get names p)
refusal_by names (Pump p) = container_refusal (get names p)
refusal_by names (Edit p op) = refusal_of_edit op (container_refusal (get names p))
refusal_by names (Beat p) = container_refusal (get names p)
refusal_by names (Summarize p) = container_refusal (get names p)
refusal_by names (Show p) = shown_refusal (get names p)
refusal_by names (Roam r name) = new_refusal (get names r)
refusal_by names (Say r op) = refusal_of_edit op (roamer_refusal (get names r))
refusal_by names (Lose r) = lost_refusal false (get names r)
refusal_by names (Back r) = lost_refusal true (get names r)
refusal_by names (Acked r) = roamer_refusal (get names r)

-- ---- a load

-- what a name stands for behind it
abbrev pub named_for : Loaded → Named
named_for (load.Held holder) = a.Container holder
named_for (load.TurnedAway refusal) = a.Used
named_for load.NoSummary = a.Used
named_for (load.BadSummary path) = a.Used

-- ---- a roam

-- what a name stands for behind it
abbrev pub named_by : Option Roamer → Named
named_by None = a.Used
named_by (Some roamer) = a.Roamer roamer

-- ---- bounds

-- a container has submitted no more often, and what a roamer has to send are edits that fit a record
abbrev pub IsBounded : ℕ → Named → Type 0
IsBounded n (a.Connection voice) = ⊤
IsBounded n (a.Container holder) = holder.container.last ≤ n
IsBounded n (a.Roamer roamer) = IsSendable roamer.outbox
IsBounded n a.Used = ⊤

abbrev pub AreBounded : ℕ → Values Named → Type 0
AreBounded n names = (q : List ℕ) (named : Named) → get names q ≡ Some named → IsBounded n named

-- what a step brings with it is as short as its line
abbrev pub IsShortStep : Step → Type 0
IsShortStep (Send c text) = length text ≤ longest_text
IsShortStep (Edit p (Ok edit)) = IsShort edit
IsShortStep (Say r (Ok edit)) = IsShort edit
IsShortStep step = ⊤
