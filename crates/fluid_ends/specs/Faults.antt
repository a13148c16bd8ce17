-- The faults of acts, made of those of the calls that they are. Want of memory is one fault, whatever lacked it.
use Rattle.std.specs.Prelude.{Result, Ok, Err, List, []}
use Rattle.fluid_deltas.specs.declared.fault.DeltaFault.{DeltaFault}
use Rattle.fluid_deltas.specs.declared.fault.DeltaFault.TheVariants as delta
use Rattle.fluid_store.specs.declared.fault.StoreFault.{StoreFault}
use Rattle.fluid_store.specs.declared.fault.StoreFault.TheVariants as store
use Rattle.fluid_opening.specs.declared.fault.DoorFault.{DoorFault}
use Rattle.fluid_opening.specs.declared.fault.DoorFault.TheVariants as door
use Rattle.fluid_lane.specs.declared.fault.LaneFault.{LaneFault}
use Rattle.fluid_lane.specs.declared.fault.LaneFault.TheVariants as lane
use Rattle.fluid_lane.specs.declared.steps.Step.{Step}
use Rattle.fluid_lane.specs.Steps.{fault_steps, delta_steps}
use Rattle.fluid_voice.specs.declared.ends.ActEnd.{ActEnd}
use Rattle.fluid_voice.specs.declared.ends.ActEnd.TheVariants.{FullNow, TooMany}
use Rattle.fluid_ends.specs.declared.fault.TalkFault.{TalkFault}
use Rattle.fluid_ends.specs.declared.fault.TalkFault.TheVariants.{Door, Lane, Delta, Store, NoMemory}

abbrev pub of_door : DoorFault → TalkFault
of_door door.NoMemory = NoMemory
of_door fault = Door fault

abbrev pub of_delta : DeltaFault → TalkFault
of_delta delta.NoMemory = NoMemory
of_delta fault = Delta fault

abbrev pub of_store : StoreFault → TalkFault
of_store store.NoMemory = NoMemory
of_store fault = Store fault

-- an entry that a lane refuses: its limits are ends of an act, and every other fault is one
abbrev pub refused_by : LaneFault → Result ActEnd TalkFault
refused_by (lane.Full entries) = Ok FullNow
refused_by lane.TooManyClients = Ok TooMany
refused_by lane.NoMemory = Err NoMemory
refused_by fault = Err (Lane fault)

-- the steps that a fault adds to a lane: that of a keeper its note
abbrev pub talk_steps : TalkFault → List Step
talk_steps (Lane fault) = fault_steps fault
talk_steps (Delta fault) = delta_steps fault
talk_steps fault = []
