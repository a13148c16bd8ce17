-- Why a call of a connection fails.
use Rattle.std.specs.Prelude.{◌≡◌, ⊤, true, false, List, [], ◌∷◌, length}
use Rattle.fluid_io.specs.Causes.{Rose}
use Rattle.fluid_types.specs.Forms.{largest}
use Rattle.fluid_deltas.specs.declared.fault.DeltaFault.{DeltaFault}
use Rattle.fluid_deltas.specs.declared.fault.DeltaFault.TheVariants as delta
use Rattle.fluid_store.specs.Storing.{Storing}
use Rattle.fluid_lane.specs.declared.fault.LaneFault.{LaneFault}
use Rattle.fluid_lane.specs.declared.fault.LaneFault.TheVariants as lane
use Rattle.fluid_opening.specs.declared.fault.DoorFault.{DoorFault}
use Rattle.fluid_opening.specs.declared.fault.DoorFault.TheVariants as door
use Rattle.fluid_voice.specs.declared.actions.Act.{Act}
use Rattle.fluid_voice.specs.declared.actions.Act.TheVariants as act
use Rattle.fluid_ends.specs.declared.fault.TalkFault.{TalkFault}
use Rattle.fluid_ends.specs.declared.fault.TalkFault.TheVariants.{Door, Lane, Delta, Store, NoMemory}
use Rattle.fluid_ends.specs.Asking.{is_entering, is_range, is_asked_of_store, IsStoreCause}
use Rattle.fluid_talk.specs.Talking.{Knowing}

-- the keeper failed, whose count rose, which is noted behind the pass's own steps; or the document has as many steps as it may have
abbrev pub IsLaneCause : Knowing → LaneFault → Type 0
IsLaneCause q (lane.LogFailed note) = Rose note.before note.after
IsLaneCause q (lane.DeltaFailed note) = Rose note.before note.after
IsLaneCause q lane.Worn = length q.seen ≡ largest
IsLaneCause q fault = ⊥

-- the same of messages that are read; what a keeper that tells its content kept is never bad
abbrev pub IsDeltaCause : Knowing → DeltaFault → Type 0
IsDeltaCause q (delta.DeltaFailed note) = Rose note.before note.after
IsDeltaCause q (delta.BadDelta number) = q.told ≡ false
IsDeltaCause q delta.Worn = length q.seen ≡ largest
IsDeltaCause q delta.NoMemory = ⊥

-- that too many documents are open is a reply, and no fault; which others there are the key tells
abbrev pub IsDoorFault : DoorFault → Type 0
IsDoorFault (door.ShelfFailed note) = ⊤
IsDoorFault (door.Lane fault) = ⊤
IsDoorFault (door.TooManyDocuments count) = ⊥
IsDoorFault door.NoMemory = ⊥

abbrev pub IsConnect : Act → Type 0
IsConnect (act.Connect name write scopes detail moment) = ⊤
IsConnect a = ⊥

-- an act has the faults of its own call alone; want of memory is free
abbrev pub IsCauseOf : Knowing → (before now : Storing) → Act → TalkFault → Type 0
IsCauseOf q before now a (Door fault) = IsConnect a × IsDoorFault fault
IsCauseOf q before now a (Lane fault) = (is_entering a ≡ true) × IsLaneCause q fault
IsCauseOf q before now a (Delta fault) = (is_range a ≡ true) × IsDeltaCause q fault
IsCauseOf q before now a (Store fault) = (is_asked_of_store a ≡ true) × IsStoreCause a before now fault
IsCauseOf q before now a NoMemory = ⊤

abbrev pub IsNoMemory : TalkFault → Type 0
IsNoMemory NoMemory = ⊤
IsNoMemory fault = ⊥

-- it failed at the first of the acts that weren't done
abbrev pub IsCauseAt : Knowing → (before now : Storing) → List Act → TalkFault → Type 0
IsCauseAt q before now [] fault = IsNoMemory fault
IsCauseAt q before now (a ∷ rest) fault = IsCauseOf q before now a fault
