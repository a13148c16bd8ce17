-- What the steps of a connection owe, on a desk.
use Rattle.std.specs.Prelude.{◌≡◌, ℕ, List, [], ◌∷◌, Some, Result, Ok, Err}
use Rattle.std.specs.FinMap.{get}
use Rattle.std.specs.Option.{option_to_list}
use Rattle.fluid_store.specs.Storing.{Storing}
use Rattle.fluid_lanes.specs.Opened.{Opened}
use Rattle.fluid_voice.specs.declared.states.VoiceState.{VoiceState}
use Rattle.fluid_voice.specs.States.{document_name, leave_of, with_next}
use Rattle.fluid_transcript.specs.World.{World, Effect, says, changed, Told, connection, used_up}
use Rattle.fluid_transcript.specs.Lines.{closed_line}
use Rattle.fluid_transcript.specs.Transcript.{written}
use Rattle.fluid_desk.specs.declared.stop.Stop.{Stop}
use Rattle.fluid_desk.specs.Stands.{DeskStands, StoreStands}
use Rattle.fluid_desk.specs.Stopping.{MayStop}

-- the desk stands for the world behind the step, in which the name stands for the connection as it is then, and the step writes these
-- lines
pub record Called (told : Told) (c : List ℕ) (o : Opened) (voice : VoiceState) (bytes : List ℕ) : Type 0 where
  pub stands : DeskStands o told.world
  pub name : get told.world.names c ≡ Some (connection voice)
  pub says : bytes ≡ written told.lines

abbrev pub CallDoes : Told → (c : List ℕ) → Opened → VoiceState → Result (List ℕ) Stop → Type 0
CallDoes told c o voice (Ok bytes) = Called told c o voice bytes
CallDoes told c o voice (Err stop) = MayStop told.world o stop

-- and the store holds what the world has stored then
pub record CalledWith (told : Told) (c : List ℕ) (o : Opened) (store : Storing) (voice : VoiceState) (bytes : List ℕ) : Type 0 where
  pub called : Called told c o voice bytes
  pub held : StoreStands store told.world

abbrev pub CallDoesWith : Told → (c : List ℕ) → Opened → Storing → VoiceState → Result (List ℕ) Stop → Type 0
CallDoesWith told c o store voice (Ok bytes) = CalledWith told c o store voice bytes
CallDoesWith told c o store voice (Err stop) = MayStop told.world o stop

-- ---- parts of a step

-- what was gathered for a connection that stands there
pub record HasGathered (told : Told) (c : List ℕ) (o : Opened) (voice : VoiceState) (gathered : List ℕ × ℕ) : Type 0 where
  pub stands : DeskStands o told.world
  pub name : get told.world.names c ≡ Some (connection (with_next gathered.1 voice))
  pub says : gathered.0 ≡ written told.lines

abbrev pub GatherDoes : Told → (c : List ℕ) → Opened → VoiceState → Result (List ℕ × ℕ) Stop → Type 0
GatherDoes told c o voice (Ok gathered) = HasGathered told c o voice gathered
GatherDoes told c o voice (Err stop) = MayStop told.world o stop

-- what closing the connection of a name does, by where it stands
abbrev pub closed_as : World → (c : List ℕ) → VoiceState → Effect
closed_as w c voice = record (says w (closed_line c ∷ [])) { entries = option_to_list (leave_of w.moment voice); name = Some (c, used_up) }

abbrev pub LeavesDesk : World → (c : List ℕ) → VoiceState → Opened → Result (Unit {0}) Stop → Type 0
LeavesDesk w c voice o (Ok done) = DeskStands o (changed (closed_as w c voice) (document_name voice) w)
LeavesDesk w c voice o (Err stop) = MayStop (changed (closed_as w c voice) (document_name voice) w) o stop

-- the desk stands for the world behind the step, in which the name is used up, and the step writes this one line
pub record Closed (told : Told) (c : List ℕ) (o : Opened) (line : List ℕ) : Type 0 where
  pub stands : DeskStands o told.world
  pub name : get told.world.names c ≡ Some used_up
  pub says : told.lines ≡ line ∷ []

abbrev pub CloseDoes : Told → (c : List ℕ) → Opened → Result (List ℕ) Stop → Type 0
CloseDoes told c o (Ok line) = Closed told c o line
CloseDoes told c o (Err stop) = MayStop told.world o stop
