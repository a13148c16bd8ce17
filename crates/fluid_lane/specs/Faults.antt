-- The faults of a lane: which are the keeper's, and what a note of them tells.
use Rattle.std.specs.Prelude.{⊤, ℕ}
use Rattle.fluid_deltas.specs.Ranges.{IsNoted}
use Rattle.fluid_document.specs.declared.fault.EnterFault.{EnterFault}
use Rattle.fluid_document.specs.declared.fault.EnterFault.TheVariants as entering
use Rattle.fluid_document.specs.declared.fault.LoadFault.{LoadFault}
use Rattle.fluid_document.specs.declared.fault.LoadFault.TheVariants as loading
use Rattle.fluid_lane.specs.declared.fault.LaneFault.{LaneFault}
use Rattle.fluid_lane.specs.declared.fault.LaneFault.TheVariants.{LogFailed, BadRecord, DeltaFailed, NoMemory, BadCheckpoint, Worn}

-- a fault of reading a document, as one of its lane
abbrev pub of_loading : LoadFault → LaneFault
of_loading (loading.LogFailed note) = LogFailed note
of_loading (loading.DeltaFailed note) = DeltaFailed note
of_loading loading.NoMemory = NoMemory
of_loading (loading.BadRecord place) = BadRecord place
of_loading (loading.BadCheckpoint number fault) = BadCheckpoint number fault
of_loading loading.Worn = Worn

-- a fault of an entry, as one of its lane
abbrev pub of_entering : EnterFault → LaneFault
of_entering (entering.LogFailed note) = LogFailed note
of_entering (entering.DeltaFailed note) = DeltaFailed note
of_entering entering.NoMemory = NoMemory

-- a fault of the keeper has the counts that were read round the call that failed
abbrev pub IsCausedBy : (before now : ℕ) → LaneFault → Type 0
IsCausedBy before now (LogFailed note) = IsNoted before now note
IsCausedBy before now (DeltaFailed note) = IsNoted before now note
IsCausedBy before now other = ⊤

-- the keeper failed at the log
abbrev pub IsLogFailed : LaneFault → Type 0
IsLogFailed (LogFailed note) = ⊤
IsLogFailed other = ⊥

-- the keeper failed, or memory was wanting
abbrev pub IsOutside : LaneFault → Type 0
IsOutside (LogFailed note) = ⊤
IsOutside (DeltaFailed note) = ⊤
IsOutside NoMemory = ⊤
IsOutside other = ⊥

-- a fault of reading: the keeper failed, memory was wanting, or what was read is refused
abbrev pub IsReadFault : LaneFault → Type 0
IsReadFault (LogFailed note) = ⊤
IsReadFault (DeltaFailed note) = ⊤
IsReadFault NoMemory = ⊤
IsReadFault (BadRecord place) = ⊤
IsReadFault (BadCheckpoint number fault) = ⊤
IsReadFault other = ⊥
