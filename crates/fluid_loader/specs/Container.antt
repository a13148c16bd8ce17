-- A container, and what messages make of it.
use Rattle.std.specs.Prelude.{◌≡◌, ℕ, ◌+◌, ◌^◌, ◌<◌, ◌≤◌, List, [], Bool, true, false, fold, Option, Some, None, if◌then◌else◌, bytes_eq}
use Rattle.std.specs.Option.{option_or}
use Rattle.fluid_table.specs.Table as table
use Rattle.fluid_types.specs.Quorum.{Quorum, quorum_of}
use Rattle.fluid_types.specs.declared.messages.Message.{Message}
use Rattle.fluid_rules.specs.Scribe.{handling, is_ack}
use Rattle.fluid_quorum.specs.After.{after}
use Rattle.fluid_edits.specs.declared.edit.Edit.{Edit}
use Rattle.fluid_edits.specs.Forms.{edit_of}
use Rattle.fluid_edits.specs.Replay.{Channels, no_channels}
use Rattle.fluid_loader.specs.declared.following.Following.{Following}
use Rattle.fluid_runtime.specs.App.{after_message, changed_by, left, all_are}

-- the channels behind the messages; whether a message has counted for each since the tree with the id `base`; the client's own edits
-- that are on their way, oldest first; the quorum; the number of the last message; the client number of the last submission; and the
-- handle of the last summaryAck that was seen
pub record AContainer : Type 0 where
  pub channels : Channels
  pub changed : table.Values Bool
  pub pending : List Edit
  pub quorum : Quorum
  pub number : ℕ
  pub last : ℕ
  pub head : Option (List ℕ)
  pub base : Option (List ℕ)

-- nothing yet
abbrev pub empty : AContainer
empty = record { channels = no_channels; changed = all_are true no_channels; pending = []; quorum = quorum_of []; number = 0; last = 0; head = None; base = None }

-- the channels and the quorum of a summary with this number, whose channels stand in the tree with this id
abbrev pub begun : Channels → Quorum → ℕ → List ℕ → AContainer
begun channels quorum number base =
    record { channels = channels; changed = all_are false channels; pending = []; quorum = quorum; number = number; last = 0; head = None; base = Some base }

-- ---- messages

-- the message is one of this client
abbrev pub is_from : List ℕ → Option (List ℕ) → Bool
is_from client None = false
is_from client (Some own) = bytes_eq own client

-- the handle that a summaryAck gives
abbrev pub acknowledged : Message → Option (List ℕ)
acknowledged m = if is_ack m.kind then handling m.contents else None

-- behind the next message of the order, for the client with this id
abbrev pub taken_by : List ℕ → AContainer → Message → AContainer
taken_by client c m =
    record c {
      channels = after_message c.channels m;
      changed = changed_by c.channels c.changed (edit_of m);
      pending = left (is_from client m.client) m c.pending;
      quorum = after c.quorum m;
      number = m.number;
      head = option_or (acknowledged m) c.head;
    }

-- behind several of them, oldest first
abbrev pub behind : List ℕ → AContainer → List Message → AContainer
behind client c messages = fold (taken_by client) c messages

-- ---- as it is kept

-- the quorum once it has taken the message that it is owed
abbrev pub brought_abreast : Quorum → Option Message → Quorum
brought_abreast quorum None = quorum
brought_abreast quorum (Some message) = after quorum message

-- it is owed the next message
abbrev pub IsOwed : Quorum → Option Message → Type 0
IsOwed quorum None = Unit {0}
IsOwed quorum (Some message) = message.number ≡ quorum.number + 1

-- the quorum is that of this number, with the message that it is owed
pub record IsAbreast (room number last : ℕ) (following : Following) : Type 0 where
  pub owed_next : IsOwed following.quorum following.owed
  pub abreast : (brought_abreast following.quorum following.owed).number ≡ number
  pub roomy : 2 ^ 64 ≤ room + number
  pub number_fits : number < 2 ^ 53
  pub last_fits : last < 2 ^ 53
