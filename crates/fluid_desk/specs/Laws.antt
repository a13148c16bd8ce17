-- What holds of a desk at the end of a run.
use Rattle.std.specs.Prelude.{ℕ}
use Rattle.fluid_io.specs.Causes.{Rose}
use Rattle.fluid_io.specs.declared.faults.FaultNote.{FaultNote}
use Rattle.fluid_log.specs.Shelving.{Shelving}
use Rattle.fluid_lanes.specs.Opened.{Opened}
use Rattle.fluid_lanes.specs.Closing.{Closes}
use Rattle.fluid_transcript.specs.World.{World}
use Rattle.fluid_desk.specs.declared.stop.Stop.TheVariants.{KeeperFault}
use Rattle.fluid_desk.specs.Stands.{DeskStands, ShelvesTell}
use Rattle.fluid_desk.specs.Stopping.{StopsFor}

-- where all documents are closed, the shelves that come back tell the documents of the world for which the desk stood
abbrev pub DesksComeBack : Type 0
DesksComeBack = (o : Opened) (w : World) (s : Shelving) → DeskStands o w → Closes o s → ShelvesTell s w

-- a keeper's fault that ended a run is in the count of the shelves that come back: it rose since the run began
abbrev pub FaultsAreCounted : Type 0
FaultsAreCounted = (before steps : ℕ) (o : Opened) (note : FaultNote) (s : Shelving) → StopsFor before steps o (KeeperFault note) → Closes o s → Rose before s.faults
