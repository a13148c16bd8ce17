-- What a note tells of a call it tells of a longer one too.
use Rattle.std.proofs.Common.{ℕ, ◌≤◌, arith}
use Rattle.fluid_io.specs.declared.faults.FaultNote.{FaultNote}
use Rattle.fluid_deltas.specs.Ranges.{IsNoted}
use Rattle.fluid_document.specs.declared.fault.EnterFault.{EnterFault}
use Rattle.fluid_document.specs.declared.fault.EnterFault.TheVariants as entering
use Rattle.fluid_document.specs.Entry.{IsEnterFault}
use Rattle.fluid_lane.specs.declared.fault.LaneFault.{LaneFault}
use Rattle.fluid_lane.specs.declared.fault.LaneFault.TheVariants.{LogFailed, DeltaFailed}
use Rattle.fluid_lane.specs.Faults.{IsCausedBy, of_entering}

noted : (first before now : ℕ) (note : FaultNote) → first ≤ before → IsNoted before now note → IsNoted first now note
noted first before now note le is = record { first = omega (arith, le, is.first); last = is.last; rose = is.rose }

pub caused_earlier : (first before now : ℕ) (fault : LaneFault) → first ≤ before → IsCausedBy before now fault → IsCausedBy first now fault
caused_earlier first before now (LogFailed note) le is = noted first before now note le is
caused_earlier first before now (DeltaFailed note) le is = noted first before now note le is
caused_earlier first before now other le is = tt

-- the fault of an entry, as its lane tells it
pub caused_entering : (before now : ℕ) (fault : EnterFault) → IsEnterFault before now fault → IsCausedBy before now (of_entering fault)
caused_entering before now (entering.LogFailed note) is = is
caused_entering before now (entering.DeltaFailed note) is = is
caused_entering before now entering.NoMemory is = tt
