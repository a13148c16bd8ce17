-- What holds of each world that a script reaches, and what a line leaves as it was.
use Rattle.std.specs.Prelude.{◌≡◌, ◌⊎◌, ◌≤◌, ◌<◌, ◌^◌, ◌==◌, ◌+◌, ℕ, true, false, List, ◌++◌, length, take, IfSome, Option, Some, None, bytes_eq}
use Rattle.std.specs.List.{list_any}
use Rattle.std.specs.FinMap.{get}
use Rattle.fluid_types.specs.declared.messages.Message.{Message}
use Rattle.fluid_types.specs.Ledger.{Ledger, order, seq}
use Rattle.fluid_types.specs.Names.{entry_name}
use Rattle.fluid_rules.specs.Scribe.{acks}
use Rattle.fluid_edits.specs.Replay.{no_channels}
use Rattle.fluid_store.specs.Held.{Keeps}
use Rattle.fluid_voice.specs.declared.states.VoiceState.{VoiceState}
use Rattle.fluid_voice.specs.declared.states.VoiceState.TheVariants.{Fresh, Reading, Writing, Used}
use Rattle.fluid_transcript.specs.World.{Document, Container, Roamer, Name, connection, container, roamer, used_up, World, document, is_open, ledger_of}
use Rattle.fluid_transcript.specs.Containers.{id_of}

-- ---- what only grows

-- one list begins with another
pub record BeginsWith {X : Type 0} (old new : List X) : Type 0 where
  pub more : List X
  pub is : new ≡ old ++ more

pub record DocumentGrows (old new : Document) : Type 0 where
  pub raws : BeginsWith old.raws new.raws
  pub checkpoints : BeginsWith old.checkpoints new.checkpoints

-- entries, checkpoints and names of open documents are added alone, and all that was held is held as it was
pub record Grows (old new : World) : Type 0 where
  pub documents : (name : List ℕ) → DocumentGrows (document old name) (document new name)
  pub opened : BeginsWith old.opened new.opened
  pub held : Keeps old.store new.store

-- ---- names

-- it has its document, its client and the channels that it was loaded from, and its number doesn't fall
pub record IsSameContainer (old new : Container) : Type 0 where
  pub document : new.document ≡ old.document
  pub entries : new.entries ≡ old.entries
  pub from : new.from ≡ old.from
  pub base : new.base ≡ old.base
  pub number : old.number ≤ new.number

-- it has its document, and no channels that it was loaded from; its client is the same or a later one, its number doesn't fall, no edit of
-- its that stands goes, and no edit that was said
pub record IsSameRoamer (old new : Roamer) : Type 0 where
  pub document : new.client.document ≡ old.client.document
  pub entries : old.client.entries ≤ new.client.entries
  pub from : new.client.from ≡ old.client.from
  pub base : new.client.base ≡ old.client.base
  pub number : old.client.number ≤ new.client.number
  pub stood : old.stood ≤ new.stood
  pub said : old.stood + length old.client.pending ≤ new.stood + length new.client.pending

-- a connection stays one until it is used up, a container and a roamer stay what they are, and what is used up stays so
abbrev pub GoesOn : Name → Name → Type 0
GoesOn (connection voice) (connection later) = Unit {0}
GoesOn (connection voice) (container k) = ⊥
GoesOn (connection voice) (roamer k) = ⊥
GoesOn (connection voice) used_up = Unit {0}
GoesOn (container k) (connection voice) = ⊥
GoesOn (container k) (container later) = IsSameContainer k later
GoesOn (container k) (roamer later) = ⊥
GoesOn (container k) used_up = ⊥
GoesOn (roamer k) (connection voice) = ⊥
GoesOn (roamer k) (container later) = ⊥
GoesOn (roamer k) (roamer later) = IsSameRoamer k later
GoesOn (roamer k) used_up = ⊥
GoesOn used_up (connection voice) = ⊥
GoesOn used_up (container k) = ⊥
GoesOn used_up (roamer k) = ⊥
GoesOn used_up used_up = Unit {0}

-- a new name may stand for anything
abbrev pub GoesOnAs : Option Name → Option Name → Type 0
GoesOnAs None new = Unit {0}
GoesOnAs (Some old) None = ⊥
GoesOnAs (Some old) (Some new) = GoesOn old new

pub record ChangesOneName (old new : World) : Type 0 where
  pub name : List ℕ
  pub others : (other : List ℕ) → bytes_eq other name ≡ false → get new.names other ≡ get old.names other
  pub goes_on : GoesOnAs (get old.names name) (get new.names name)

-- ---- a sound world

-- the document and the id of a name's client
abbrev pub client_in : Option Name → Option (List ℕ × List ℕ)
client_in None = None
client_in (Some (connection Fresh)) = None
client_in (Some (connection (Reading name next))) = None
client_in (Some (connection (Writing name id next))) = Some (name, id)
client_in (Some (connection Used)) = None
client_in (Some (container k)) = Some (k.document, id_of k)
client_in (Some (roamer k)) = Some (k.client.document, id_of k.client)
client_in (Some used_up) = None

-- the ledger of a document
abbrev pub ledger_in : World → List ℕ → Ledger
ledger_in w name = ledger_of (document w name)

-- a client of an open document, with the id that an entry of it gives
pub record IsClient (w : World) (name id : List ℕ) : Type 0 where
  pub open_is : is_open w name ≡ true
  pub place : ℕ
  pub below : place < length (document w name).raws
  pub is : id ≡ entry_name place

-- what is next stands behind no more than all messages of its document, which is open
pub record IsFed (w : World) (name : List ℕ) (next : ℕ) : Type 0 where
  pub open_is : is_open w name ≡ true
  pub within : next ≤ seq (ledger_in w name) + 1

abbrev pub IsSoundVoice : World → VoiceState → Type 0
IsSoundVoice w Fresh = Unit {0}
IsSoundVoice w (Reading name next) = IsFed w name next
IsSoundVoice w (Writing name id next) = IsClient w name id × IsFed w name next
IsSoundVoice w Used = ⊥

-- a summary of this number is acknowledged among these messages, or it is 0
abbrev pub IsAcknowledged : List Message → ℕ → Type 0
IsAcknowledged messages number = (number ≡ 0) ⊎ (list_any (λ ack. ack.number == number) (acks messages) ≡ true)

-- its document is open, its client's join was entered, and the summary that it was loaded from was acknowledged up to its number, which
-- is one of the order
pub record IsSoundContainer (w : World) (k : Container) : Type 0 where
  pub open_is : is_open w k.document ≡ true
  pub entries : k.entries < length (document w k.document).raws
  pub base : k.base ≤ k.number
  pub number : k.number ≤ seq (ledger_in w k.document)
  pub acknowledged : IsAcknowledged (take k.number (order (ledger_in w k.document))) k.base

-- a container of its client is sound, and was loaded from nothing
pub record IsSoundRoamer (w : World) (k : Roamer) : Type 0 where
  pub client : IsSoundContainer w k.client
  pub from : k.client.from ≡ no_channels
  pub base : k.client.base ≡ 0

abbrev pub IsSoundName : World → Name → Type 0
IsSoundName w (connection voice) = IsSoundVoice w voice
IsSoundName w (container k) = IsSoundContainer w k
IsSoundName w (roamer k) = IsSoundRoamer w k
IsSoundName w used_up = Unit {0}

-- each name stands for something sound, and no two names have one client
pub record IsSound (w : World) : Type 0 where
  pub names : (name : List ℕ) → IfSome (get w.names name) (IsSoundName w)
  pub apart :
      (one other name id : List ℕ) → client_in (get w.names one) ≡ Some (name, id) → client_in (get w.names other) ≡ Some (name, id)
      → length (document w name).raws ≤ 2 ^ 64 → one ≡ other
