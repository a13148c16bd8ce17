-- What calls on a roamer make of its channels and its outbox. A past is a list of calls on the outbox, newest first.
use Rattle.std.specs.Prelude.{◌≡◌, ◌≤◌, ℕ, ◌+◌, Bool, ◌&&◌, if◌then◌else◌, List, [], ◌∷◌, ◌++◌, map, fold, drop, length, Option, Some, None, Result, Ok, Err, ⊤}
use Rattle.std.specs.List.{AllByRecursion}
use Rattle.fluid_types.specs.Ledger.{order}
use Rattle.fluid_types.specs.declared.entries.Raw.{Raw}
use Rattle.fluid_types.specs.declared.entries.Raw.TheVariants.{Submit}
use Rattle.fluid_types.specs.Forms.{largest}
use Rattle.fluid_types.specs.declared.entries.Submission.{Submission}
use Rattle.fluid_types.specs.declared.messages.Message.{Message}
use Rattle.fluid_rules.specs.declared.limits.Limits.{Limits}
use Rattle.fluid_edits.specs.declared.edit.Edit.{Edit}
use Rattle.fluid_edits.specs.Forms.{contents_of}
use Rattle.fluid_edits.specs.Replay.{replay_edits}
use Rattle.fluid_runtime.specs.App.{after_message, is_op, loaded}
use Rattle.fluid_edits.specs.Replay.{no_channels}
use Rattle.fluid_runtime.specs.Refused.{answer}
use Rattle.fluid_runtime.specs.declared.fault.EditFault.{EditFault}
use Rattle.fluid_runtime.specs.declared.fault.EditFault.TheVariants.{NoMemory}
use Rattle.fluid_lane.specs.Standing.{Standing}
use Rattle.fluid_outbox.specs.Past.{Past, Given, Pushed, Joined, Gave, Heard, Lost, acknowledges, acknowledged, op_of, op_with, next, edits}
use Rattle.fluid_outbox.specs.Kept.{AnOutbox, Stands}
use Rattle.fluid_transcript.specs.World.{Document, ledger_of}
use Rattle.fluid_desk.specs.Stands.{IsLaneOf}
use Rattle.fluid_containers.specs.Stepping.{IsShort}
use Rattle.fluid_roamers.specs.declared.roamer.Roamer.{Roamer}

-- what isn't acknowledged are the contents of edits that are neither too deep nor too long for a record
pub record IsSendable (o : AnOutbox) : Type 0 where
  pub said : List Edit
  pub are : o.pending ≡ map contents_of said
  pub short : AllByRecursion IsShort said

-- the user, the client and the number of edits are as before
pub record IsSame (old new : Roamer) : Type 0 where
  pub document : new.document ≡ old.document
  pub client : new.client ≡ old.client
  pub edits : new.edits ≡ old.edits

-- nothing was said or heard yet
pub record Begins (document client : List ℕ) (h : Roamer) : Type 0 where
  pub document_is : h.document ≡ document
  pub client_is : h.client ≡ client
  pub app : h.app ≡ loaded no_channels
  pub outbox : Stands h.outbox []
  pub edits : h.edits ≡ 0

-- the user goes on as this client, and nothing else changes
pub record TakesClient (past : Past) (client : List ℕ) (old new : Roamer) : Type 0 where
  pub document : new.document ≡ old.document
  pub client_is : new.client ≡ client
  pub edits : new.edits ≡ old.edits
  pub app : new.app ≡ old.app
  pub outbox : Stands new.outbox (Joined client ∷ Lost ∷ past)

-- the connection is lost
pub record Loses (past : Past) (old new : Roamer) : Type 0 where
  pub same : IsSame old new
  pub app : new.app ≡ old.app
  pub outbox : Stands new.outbox (Lost ∷ past)

-- ---- messages

-- whether a message acknowledges the first edit that isn't acknowledged
abbrev pub acks : Past → Message → Bool
acks past m = acknowledges past (acknowledged past) (op_of m)

abbrev pub hears : Past → List Message → Past
hears past [] = past
hears past (m ∷ ms) = hears (Heard m ∷ past) ms

-- of edits that are laid over, the oldest goes for each message that acknowledges one
abbrev pub without : {E : Type 0} → Past → List Message → List E → List E
without past [] es = es
without past (m ∷ ms) es = without (Heard m ∷ past) ms (if acks past m && is_op m then drop 1 es else es)

-- messages were taken in, one after another
pub record TakesIn (past : Past) (ms : List Message) (old new : Roamer) : Type 0 where
  pub same : IsSame old new
  pub outbox : Stands new.outbox (hears past ms)
  pub channels : new.app.channels ≡ fold after_message old.app.channels ms
  pub pending : new.app.pending ≡ without past ms old.app.pending

-- all those of a document behind the last that was heard, whose lane stands as before
pub record HearsLane (limits : Limits) (d : Document) (past : Past) (lane : Standing) (old new : Roamer) : Type 0 where
  pub stands : IsLaneOf limits lane d
  pub takes : TakesIn past (drop old.outbox.heard_to (order (ledger_of d))) old new

-- ---- edits

-- an edit that is allowed was laid over, and waits; it has the next number
pub record LaidOver (past : Past) (old : Roamer) (edit : Edit) (new : Roamer) (number : ℕ) : Type 0 where
  pub allowed : answer (replay_edits old.app.channels old.app.pending) edit ≡ Ok (contents_of edit)
  pub number_is : number ≡ length (edits past)
  pub edits : new.edits ≡ number + 1
  pub document : new.document ≡ old.document
  pub client : new.client ≡ old.client
  pub app : new.app ≡ record old.app { pending = old.app.pending ++ edit ∷ [] }
  pub outbox : Stands new.outbox (Pushed (contents_of edit) ∷ past)

-- or it is refused, and nothing has changed
pub record IsRefused (old : Roamer) (edit : Edit) (new : Roamer) (fault : EditFault) : Type 0 where
  pub why : answer (replay_edits old.app.channels old.app.pending) edit ≡ Err fault
  pub same : new ≡ old

abbrev pub LaysOver : Past → Roamer → Edit → Roamer → Result ℕ EditFault → Type 0
LaysOver past old edit new (Ok number) = LaidOver past old edit new number
LaysOver past old edit new (Err NoMemory) = ⊤
LaysOver past old edit new (Err fault) = IsRefused old edit new fault

-- ---- sending

-- an edit that `next` gave is on its way, as an entry
pub record GivesOne (past : Past) (moment : ℕ) (old new : Roamer) (raw : Raw) : Type 0 where
  pub given : Given
  pub next_is : next past old.outbox.heard_to ≡ Some given
  pub raw_is : raw ≡ Submit old.client given.submission moment
  pub same : IsSame old new
  pub app : new.app ≡ old.app
  pub outbox : Stands new.outbox (Gave given ∷ past)

abbrev pub Gives : Past → ℕ → Roamer → Roamer → Option Raw → Type 0
Gives past moment old new None = (next past old.outbox.heard_to ≡ None) × (new ≡ old)
Gives past moment old new (Some raw) = GivesOne past moment old new raw

-- an op whose reference and contents fit a record
pub record IsShortOp (s : Submission) : Type 0 where
  pub reference : ℕ
  pub within : reference ≤ largest
  pub edit : Edit
  pub short : IsShort edit
  pub is : s ≡ op_with s.client_number reference (contents_of edit)
