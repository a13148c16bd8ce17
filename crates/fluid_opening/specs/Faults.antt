-- The faults of opening a document.
use Rattle.fluid_lane.specs.declared.fault.LaneFault.{LaneFault}
use Rattle.fluid_lane.specs.declared.fault.LaneFault.TheVariants as lane
use Rattle.fluid_opening.specs.declared.fault.DoorFault.{DoorFault}
use Rattle.fluid_opening.specs.declared.fault.DoorFault.TheVariants.{Lane, NoMemory}

-- a fault of starting a lane, as one of opening its document: want of memory is one fault, wherever it comes from
abbrev pub of_starting : LaneFault → DoorFault
of_starting lane.NoMemory = NoMemory
of_starting fault = Lane fault
