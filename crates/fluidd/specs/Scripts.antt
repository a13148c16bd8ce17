-- What the exit status of `script` and of `load` says.
use Rattle.std.specs.Prelude.{◌≡◌, ◌⊎◌, ℕ, List, [], Option, Some, None, is_none}
use Rattle.std.specs.Str.Lines.{lines}
use Rattle.fluid_io.specs.Causes.{Rose}
use Rattle.fluid_log.specs.Shelving.{AreWhole}
use Rattle.fluid_lane.specs.declared.fault.LaneFault.TheVariants.{Worn}
use Rattle.fluid_pipe.specs.Meaning.{Accepts}
use Rattle.fluid_pipe.specs.Output.{HasRefused, IsInterrupted, ReadFailed, Wrote}
use Rattle.fluid_steps.specs.declared.refusal.LineWhy.{LineWhy}
use Rattle.fluid_transcript.specs.World.{World}
use Rattle.fluid_desk.specs.declared.stop.StoredFault.{StoredFault}
use Rattle.fluid_desk.specs.declared.stop.StoredFault.TheVariants.{Lane}
use Rattle.fluid_world.specs.Taking.{means}
use Rattle.fluid_world.specs.Ending.{full, Outside, IsQuiet, IsRefusedBy, IsDeskOf, DoesAll, DidRefuse, GrowsLong, WasBegun, WasCut}
use Rattle.fluid_world.specs.declared.ends.ScriptEnd.{ScriptEnd}
use Rattle.fluid_world.specs.declared.ends.ScriptEnd.TheVariants as end
use Rattle.fluidd.specs.declared.status.Status.{Status}
use Rattle.fluidd.specs.declared.status.Status.TheVariants as status

-- the status for how a script ended
abbrev pub script_status : ScriptEnd → Status
script_status end.Done = status.Done
script_status (end.BadLine number why) = status.Refused
script_status end.ReadFault = status.ReadFault
script_status end.WriteFault = status.WriteFault
script_status end.NoMemory = status.NoMemory
script_status (end.KeeperFault note) = status.KeeperFault
script_status (end.StoreFault note) = status.StoreFault
script_status (end.BadStored fault) = status.BadStored

-- there are these statuses alone
abbrev pub IsScriptStatus : (status : ℕ) → Type 0
IsScriptStatus status = (status ≡ 0) ⊎ ((status ≡ 3) ⊎ ((status ≡ 4) ⊎ ((status ≡ 5) ⊎ ((status ≡ 6) ⊎ ((status ≡ 7) ⊎ ((status ≡ 8) ⊎ (status ≡ 11)))))))

-- no count rose
pub record NoneRose (before now : Outside) : Type 0 where
  pub source : Rose before.source.faults now.source.faults → ⊥
  pub sink : Rose before.sink.faults now.sink.faults → ⊥
  pub shelves : Rose before.shelves.faults now.shelves.faults → ⊥
  pub store : Rose before.store.faults now.store.faults → ⊥

-- memory was wanting, or the entries of a document and the lines come to the end of all numbers
abbrev pub FallsShort : World → (load : Option (List ℕ)) → (before : Outside) → (status : ℕ) → Type 0
FallsShort w load before status = (status ≡ 6) ⊎ ((status ≡ 11) × GrowsLong full w load before.source.left)

-- where a desk tells a world, what the status says of what was written and of the desk that comes back
pub record WritesAs (w : World) (load : Option (List ℕ)) (before now : Outside) (status : ℕ) : Type 0 where
  -- 0: no line is refused, all that they mean was written, and the desk tells the world behind them
  pub whole : status ≡ 0 → DoesAll full w load before now
  -- 3: the lines before the refused one were written, then the line of its fault, and the desk tells the world behind them
  pub refused : status ≡ 3 → (number : ℕ) × ((why : LineWhy) × DidRefuse (is_none load) full w number why before now)
  -- 4: the lines for the whole lines that were read
  pub interrupted : status ≡ 4 → Wrote (IsInterrupted (means (is_none load) full w) now.source.left) before.source.left before.sink.written now.sink.written
  -- 5: a beginning of the whole
  pub cut : status ≡ 5 → WasCut full w load before now
  -- 6, 7, 8, 11: a beginning that ends at a line's end
  pub begun : (status ≡ 6) ⊎ ((status ≡ 7) ⊎ ((status ≡ 8) ⊎ (status ≡ 11))) → WasBegun (is_none load) full w before now
  -- 11: a document is worn: its entries and the lines come to the end of all numbers
  pub worn : status ≡ 11 → IsRefusedBy before now (Lane Worn) × GrowsLong full w load before.source.left
  -- where no line is refused and nothing failed, all is done; and where one is, that is told
  pub complete : (bytes : List ℕ) → before.source.left ≡ Some bytes → Accepts (means (is_none load) full w) [] (lines bytes) → NoneRose before now → (status ≡ 0) ⊎ FallsShort w load before status
  pub refuses : (bytes : List ℕ) → before.source.left ≡ Some bytes → HasRefused (means (is_none load) full w) bytes → NoneRose before now → (status ≡ 3) ⊎ FallsShort w load before status

-- what the status says of a run that began so and left the outside so
pub record Scripts (told : Option World) (load : Option (List ℕ)) (before now : Outside) (status : ℕ) : Type 0 where
  -- 4: the source failed, and the sink didn't
  pub read_fault : status ≡ 4 → ReadFailed before.source before.sink now.source now.sink
  -- 5: the sink failed
  pub write_fault : status ≡ 5 → Rose before.sink.faults now.sink.faults
  -- 7, 8: a keeper or the shelves failed, or the store
  pub keeper_fault : status ≡ 7 → Rose before.shelves.faults now.shelves.faults
  pub store_fault : status ≡ 8 → Rose before.store.faults now.store.faults
  -- 11: what is stored is refused
  pub stored : status ≡ 11 → (fault : StoredFault) × IsRefusedBy before now fault
  -- 0, 3, 6, 7, 8, 11: neither the source nor the sink failed
  pub quiet : (status ≡ 4 → ⊥) → (status ≡ 5 → ⊥) → IsQuiet before now
  -- no keeper is out
  pub whole : AreWhole now.shelves
  pub known : IsScriptStatus status
  pub writes : (w : World) → told ≡ Some w → WritesAs w load before now status
