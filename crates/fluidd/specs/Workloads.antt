-- What the exit status of `workload` says.
use Rattle.std.specs.Prelude.{◌≡◌, ◌≤◌, ◌⊎◌, ℕ, Option, Some}
use Rattle.fluid_io.specs.Causes.{Rose}
use Rattle.fluid_io.specs.Streams.{AppendsPrefix}
use Rattle.fluid_log.specs.Shelving.{AreWhole}
use Rattle.fluid_lane.specs.declared.fault.LaneFault.TheVariants.{Worn}
use Rattle.fluid_transcript.specs.World.{World}
use Rattle.fluid_desk.specs.declared.stop.StoredFault.{StoredFault}
use Rattle.fluid_desk.specs.declared.stop.StoredFault.TheVariants.{Lane}
use Rattle.fluid_workload.specs.Summary.{written_by}
use Rattle.fluid_world.specs.Ending.{full, Outside, IsQuiet, IsRefusedBy}
use Rattle.fluid_alike.specs.Alike.{EndsSame}
use Rattle.fluid_load.specs.Ending.{DidWork, IsNearlyFull}
use Rattle.fluidd.specs.Scripts.{NoneRose}

-- a number from one to another
abbrev pub IsBetween : (least most n : ℕ) → Type 0
IsBetween least most n = (least ≤ n) × (n ≤ most)

-- there are these statuses alone
abbrev pub IsWorkStatus : (status : ℕ) → Type 0
IsWorkStatus status = (status ≡ 0) ⊎ ((status ≡ 5) ⊎ ((status ≡ 6) ⊎ ((status ≡ 7) ⊎ ((status ≡ 8) ⊎ (status ≡ 11)))))

-- memory was wanting, or a document of the desk came to the end of all numbers by what the workload added
abbrev pub IsCutShort : World → (clients ops status : ℕ) → Type 0
IsCutShort w clients ops status = (status ≡ 6) ⊎ ((status ≡ 11) × IsNearlyFull w clients ops)

-- where a desk tells a world in which the document has no entry, what the status says of what was written and of the desk that comes back
pub record SummarizesAs (w : World) (number clients ops : ℕ) (before now : Outside) (status : ℕ) : Type 0 where
  -- 0: the summary was written, and the desk tells the world behind all acts
  pub whole : status ≡ 0 → DidWork full w number clients ops before now
  -- and its last line is `loaded same`
  pub same : status ≡ 0 → EndsSame full w number clients ops
  -- 5: a beginning of it
  pub cut : status ≡ 5 → AppendsPrefix (written_by full w number clients ops) before.sink.written now.sink.written
  -- 6, 7, 8, 11: nothing
  pub nothing : (status ≡ 6) ⊎ ((status ≡ 7) ⊎ ((status ≡ 8) ⊎ (status ≡ 11))) → now.sink ≡ before.sink
  -- 11: a document is worn: it had so many entries before that with those of a workload it comes to the end of all numbers
  pub worn : status ≡ 11 → IsRefusedBy before now (Lane Worn) × IsNearlyFull w clients ops
  -- where nothing failed, all is done
  pub complete : NoneRose before now → (status ≡ 0) ⊎ IsCutShort w clients ops status

-- what the status says of a run that began so and left the outside so
pub record Summarizes (told : Option World) (number clients ops : ℕ) (before now : Outside) (status : ℕ) : Type 0 where
  -- 5: the sink failed
  pub write_fault : status ≡ 5 → Rose before.sink.faults now.sink.faults
  -- 7, 8: a keeper or the shelves failed, or the store
  pub keeper_fault : status ≡ 7 → Rose before.shelves.faults now.shelves.faults
  pub store_fault : status ≡ 8 → Rose before.store.faults now.store.faults
  -- 11: what is stored is refused
  pub stored : status ≡ 11 → (fault : StoredFault) × IsRefusedBy before now fault
  -- 0, 6, 7, 8, 11: the sink didn't fail
  pub quiet : (status ≡ 5 → ⊥) → IsQuiet before now
  -- no keeper is out
  pub back : AreWhole now.shelves
  pub known : IsWorkStatus status
  pub writes : (w : World) → told ≡ Some w → SummarizesAs w number clients ops before now status
