-- What the end of a workload says: its cause, what was written, and what the desk that comes back tells.
use Rattle.std.specs.Prelude.{◌≡◌, ◌≤◌, ◌+◌, ◌*◌, ℕ, List, [], length, Some}
use Rattle.fluid_io.specs.Streams.{Writing, Appends, AppendsPrefix}
use Rattle.fluid_log.specs.Shelving.{Shelving}
use Rattle.fluid_store.specs.Storing.{Storing}
use Rattle.fluid_types.specs.Forms.{largest}
use Rattle.fluid_lane.specs.declared.fault.LaneFault.TheVariants.{Worn}
use Rattle.fluid_rules.specs.declared.limits.Limits.{Limits}
use Rattle.fluid_transcript.specs.World.{World, document}
use Rattle.fluid_workload.specs.Working.{work}
use Rattle.fluid_workload.specs.Summary.{behind_all, written_by}
use Rattle.fluid_desk.specs.declared.stop.StoredFault.TheVariants.{Lane}
use Rattle.fluid_world.specs.declared.ends.ScriptEnd.{ScriptEnd}
use Rattle.fluid_world.specs.declared.ends.ScriptEnd.TheVariants.{Done, BadLine, ReadFault, WriteFault, BadStored}
use Rattle.fluid_world.specs.Ending.{Outside, HasCause, IsDeskOf, ComesBackAs}

-- a sink, shelves and a store; a workload reads nothing
abbrev pub outside : Writing → Shelving → Storing → Outside
outside sink shelves store = record { source = record { left = Some []; faults = 0 }; sink = sink; shelves = shelves; store = store }

-- a workload has no lines that could be refused, and no source that could fail
abbrev pub CameBy : (before now : Outside) → ScriptEnd → Type 0
CameBy before now (BadLine number why) = ⊥
CameBy before now ReadFault = ⊥
CameBy before now end = HasCause before now end

-- a desk tells a world in which the document has no entry
pub record IsNewDeskOf (shelves : Shelving) (store : Storing) (w : World) : Type 0 where
  pub desk : IsDeskOf shelves store w
  pub no_entry : (document w work).raws ≡ []

-- the summary was written, and the desk tells the world behind all acts
pub record DidWork (limits : Limits) (w : World) (number clients ops : ℕ) (before now : Outside) : Type 0 where
  pub written : Appends (written_by limits w number clients ops) before.sink.written now.sink.written
  pub back : ComesBackAs now (behind_all limits w number clients ops).world

-- so few entries and side steps does a workload add to a document
abbrev pub most_added : (clients ops : ℕ) → ℕ
most_added clients ops = 30 * (1 + clients + ops)

-- a document of a desk's world has so many entries before a workload that these would bring it to the end of all numbers
abbrev pub IsNearlyFull : World → (clients ops : ℕ) → Type 0
IsNearlyFull w clients ops = (name : List ℕ) × (largest ≤ length (document w name).raws + most_added clients ops)

-- nothing is written before the summary, and of that a beginning where the sink failed
abbrev pub WritesSummary : Limits → World → (number clients ops : ℕ) → (before now : Outside) → ScriptEnd → Type 0
WritesSummary limits w number clients ops before now Done = DidWork limits w number clients ops before now
WritesSummary limits w number clients ops before now WriteFault = AppendsPrefix (written_by limits w number clients ops) before.sink.written now.sink.written
WritesSummary limits w number clients ops before now (BadStored fault) = (fault ≡ Lane Worn) × (IsNearlyFull w clients ops × (now.sink ≡ before.sink))
WritesSummary limits w number clients ops before now end = now.sink ≡ before.sink
