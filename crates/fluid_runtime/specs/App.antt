-- A client's channels, and what they stand for.
use Rattle.std.specs.Prelude.{◌≡◌, ℕ, ◌^◌, List, [], Bool, true, ◌&&◌, Option, Some, None, is_some, Result, Ok, Err, if◌then◌else◌, drop, map}
use Rattle.std.specs.FinMap.{entries, from_sorted, get, insert}
use Rattle.fluid_table.specs.Table as table
use Rattle.fluid_types.specs.declared.fault.BlobFault.{BlobFault}
use Rattle.fluid_types.specs.declared.messages.Message.{Message}
use Rattle.fluid_edits.specs.declared.edit.Edit.{Edit}
use Rattle.fluid_edits.specs.Forms.{address_of, edit_of, of_op}
use Rattle.fluid_edits.specs.Replay.{Channels, told, after, replay, replay_edits}

-- the channels behind the messages; whether a message has counted for each since the last mark; the client's own edits that are
-- on their way, oldest first; and how many more messages there is room for
pub record AnApp : Type 0 where
  pub channels : Channels
  pub changed : table.Values Bool
  pub pending : List Edit
  pub room : ℕ

-- the app stands for these messages behind these channels, with these edits on their way
pub record StandsFor (base : Channels) (messages : List Message) (edits : List Edit) (app : AnApp) : Type 0 where
  pub channels : app.channels ≡ replay base messages
  pub pending : app.pending ≡ edits

-- what a client shows: the edits that are on their way as if they were next in the order
abbrev pub visible : AnApp → Channels
visible app = replay_edits app.channels app.pending

-- ---- one message

abbrev pub after_any : Channels → Option Edit → Channels
after_any channels None = channels
after_any channels (Some edit) = after channels edit

abbrev pub after_message : Channels → Message → Channels
after_message channels message = after_any channels (edit_of message)

-- an own op takes the oldest edit off, where there is one
abbrev pub is_op : Message → Bool
is_op message = is_some (of_op message.kind (Some true))

abbrev pub left : Bool → Message → List Edit → List Edit
left own message edits = if own && is_op message then drop 1 edits else edits

-- ---- what has changed

abbrev pub marked_if : table.Values Bool → List ℕ → Bool → table.Values Bool
marked_if changed at counts = if counts then insert changed at true else changed

-- an edit counts for the channel that it attaches or that it speaks to
abbrev pub counts : Channels → Edit → Bool
counts channels edit = is_some (told edit (get channels (address_of edit)))

abbrev pub changed_by : Channels → table.Values Bool → Option Edit → table.Values Bool
changed_by channels changed None = changed
changed_by channels changed (Some edit) = marked_if changed (address_of edit) (counts channels edit)

-- each channel with the same answer
abbrev pub all_are : Bool → Channels → table.Values Bool
all_are answer channels = from_sorted (map (λ e. (e.0, answer)) (entries channels))

-- ---- beginnings

-- how many edits of messages there is room for
abbrev pub most_taken : ℕ
most_taken = 2 ^ 64

-- an app of these channels, with nothing pending and without a mark
abbrev pub loaded : Channels → AnApp
loaded channels = record { channels = channels; changed = all_are true channels; pending = []; room = most_taken }

-- what is answered of channels, of the app of these channels
abbrev pub loaded_if : Result Channels BlobFault → Result AnApp BlobFault
loaded_if (Ok channels) = Ok (loaded channels)
loaded_if (Err fault) = Err fault
