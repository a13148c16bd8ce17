-- How a document is reached.
use Rattle.std.specs.Prelude.{◌≡◌, ◌⊎◌, ◌<◌, ◌≤◌, ⊤, ℕ, Bool, true, false, List, [], ◌∷◌, length, if◌then◌else◌, Option, Some, None, Result, Ok, Err, IfOk, IfErr}
use Rattle.fluid_turn.specs.Entries.{IsPrefix}
use Rattle.fluid_json.specs.declared.memory.NoMemory.{NoMemory as Refused}
use Rattle.fluid_types.specs.Fits.{Fits}
use Rattle.fluid_types.specs.Names.{entry_name}
use Rattle.fluid_types.specs.declared.entries.Raw.TheVariants.{Join}
use Rattle.fluid_types.specs.Forms.{largest}
use Rattle.fluid_codec.specs.declared.replies.Reply.{Reply}
use Rattle.fluid_opening.specs.declared.fault.DoorFault.{DoorFault}
use Rattle.fluid_opening.specs.declared.fault.DoorFault.TheVariants as door
use Rattle.fluid_service.specs.Visiting.{Visiting, IsSplitOf}
use Rattle.fluid_service.specs.Keys.{AKey}
use Rattle.fluid_voice.specs.declared.refusals.ConnectRefusal.TheVariants.{TooManyDocuments}
use Rattle.fluid_voice.specs.declared.states.VoiceState.TheVariants.{Fresh}
use Rattle.fluid_voice.specs.declared.actions.Act.{Act}
use Rattle.fluid_voice.specs.declared.actions.Act.TheVariants as act
use Rattle.fluid_voice.specs.declared.ends.ActEnd.{ActEnd}
use Rattle.fluid_voice.specs.declared.ends.ActEnd.TheVariants.{Joined, Told as ToldLast}
use Rattle.fluid_voice.specs.States.{is_connected, number_behind}
use Rattle.fluid_voice.specs.Refusals.{refused}
use Rattle.fluid_voice.specs.Replies.{connect_replies, connect_state}
use Rattle.fluid_ends.specs.declared.fault.TalkFault.{TalkFault}
use Rattle.fluid_ends.specs.declared.fault.TalkFault.TheVariants as talk
use Rattle.fluid_talk.specs.Talking.{Knowing, number_behind_last}
use Rattle.fluid_talk.specs.Hearing.{IsConnectEnd, IsFaultOf}
use Rattle.fluid_talk.specs.Shelves.{KeepsKey, IsRefusedDoor, IsReachedBy}
use Rattle.fluid_connection.specs.declared.connecting.Connect.{Connect}
use Rattle.fluid_connection.specs.declared.telling.Answered.{Answered}
use Rattle.fluid_connection.specs.Knowing.{knowing, keyed}
use Rattle.fluid_connection.specs.Talked.{Talked, pass_of, visited}
use Rattle.fluid_connection.specs.Entering.{DoesAs}
use Rattle.fluid_connection.specs.Telling.{no_counts}

-- ---- what is asked for

abbrev pub act_of : Connect → Act
act_of connect = act.Connect connect.name connect.write connect.scopes connect.detail connect.moment

abbrev pub name_of : Act → List ℕ
name_of (act.Connect name write scopes detail moment) = name
name_of a = []

-- its join fits a log under whichever id it gets
abbrev pub FitsJoin : Connect → Type 0
FitsJoin connect = (n : ℕ) → n ≤ largest → Fits (Join (entry_name n) connect.scopes connect.detail connect.moment)

-- ---- the visit that was handed in, and the service

-- the visit that was handed in is split where it is one of the document of this name: the second one is of the same turn
abbrev pub Splits : List ℕ → Option Visiting → Option (Result Visiting Refused) → Type 0
Splits name None None = ⊤
Splits name None (Some result) = ⊥
Splits name (Some visit) None = visit.door.name ≡ name → ⊥
Splits name (Some visit) (Some (Ok second)) = (visit.door.name ≡ name) × (IsSplitOf visit second × (second.pass.turn ≡ visit.pass.turn))
Splits name (Some visit) (Some (Err refused)) = visit.door.name ≡ name

-- a visit of the document: a split of the one that was handed in, which has seen as much, or one of the service, for which the key was
-- asked
pub record ReachesVisit (name : List ℕ) (handed : Option Visiting) (k m : AKey) (visit : Visiting) : Type 0 where
  pub named : visit.door.name ≡ name
  pub new : visit.pass.mine ≡ []
  pub begins : (pass_of handed).name ≡ Some name → IsPrefix (pass_of handed).seen visit.pass.seen
  pub through : IsReachedBy name (pass_of handed) (visited visit) (keyed k) (keyed m)

abbrev pub ReachesBy : List ℕ → Option Visiting → AKey → AKey → Result Visiting DoorFault → Type 0
ReachesBy name handed k m (Ok visit) = ReachesVisit name handed k m visit
ReachesBy name handed k m (Err door.NoMemory) = KeepsKey (keyed k) (keyed m)
ReachesBy name handed k m (Err fault) = IsRefusedDoor name fault (keyed k) (keyed m)

-- ---- what the document answers

-- the visit behind asking it
pub record Greets (connect : Connect) (visit now : Visiting) (answer : Result ActEnd TalkFault) : Type 0 where
  pub door : now.door ≡ visit.door
  pub few : length now.pass.seen ≤ largest
  pub does : DoesAs (knowing visit.door.name visit.pass) (knowing now.door.name now.pass) (act_of connect) answer
  pub ends : IfOk answer (IsConnectEnd (Some visit.door.name) (act_of connect))
  pub faults : IfErr answer (λ fault. IsFaultOf (Some visit.door.name) (Some fault))

-- the number of the message that is delivered next isn't 0, and not above the one behind the last message
abbrev pub IsAheadIn : Bool → Knowing → ActEnd → Type 0
IsAheadIn true q (Joined id number) = (0 < number) × (q.told ≡ true → number ≤ number_behind_last q.seen)
IsAheadIn false q (ToldLast last) = q.told ≡ true → number_behind last ≤ number_behind_last q.seen
IsAheadIn write q end = ⊤

pub record MaySettle (name : List ℕ) (write : Bool) (visit : Visiting) (answer : Result ActEnd TalkFault) : Type 0 where
  pub named : visit.door.name ≡ name
  pub few : length visit.pass.seen ≤ largest
  pub ahead : IfOk answer (IsAheadIn write (knowing visit.door.name visit.pass))

-- ---- what is said to it

-- nothing of it is counted; all of this was said, or nothing for want of memory
pub record IsSaid (all : List Reply) (told : Answered) (fault : Option TalkFault) : Type 0 where
  pub counts : told.counts ≡ no_counts
  pub said : ((fault ≡ None) × (told.replies.items ≡ all)) ⊎ ((fault ≡ Some talk.NoMemory) × (told.replies.items ≡ []))

abbrev pub IsRefused : Answered → Option TalkFault → Type 0
IsRefused told fault = IsSaid (refused TooManyDocuments ∷ []) told fault

-- an answer was said, and it stands as that says; a fault leaves it unconnected
abbrev pub SettlesBy : Talked → List ℕ → Bool → Result ActEnd TalkFault → Answered → Option TalkFault → Type 0
SettlesBy new name write (Ok end) told fault = (new.voice ≡ connect_state name write Fresh end) × IsSaid (connect_replies Fresh write end) told fault
SettlesBy new name write (Err cause) told fault = (new.voice ≡ Fresh) × ((told.counts ≡ no_counts) × ((told.replies.items ≡ []) × (fault ≡ Some cause)))

-- the visit is kept, and what was handed in as long as it isn't connected
pub record Settles (old new : Talked) (name : List ℕ) (write : Bool) (visit : Visiting) (answer : Result ActEnd TalkFault) (told : Answered) (fault : Option TalkFault) : Type 0 where
  pub visit_is : new.visit ≡ Some visit
  pub handed : new.handed ≡ (if is_connected new.voice then None else old.handed)
  pub by : SettlesBy new name write answer told fault
