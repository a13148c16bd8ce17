-- What edits make of the channels of a document.
use Rattle.std.specs.Prelude.{ℕ, ℤ, pos, ◌+ℤ◌, List, [], ◌∷◌, ◌&&◌, Option, Some, None, option_map, if◌then◌else◌, bytes_eq, fold}
use Rattle.std.specs.List.{filter_map}
use Rattle.std.specs.FinMap.{empty, get, insert}
use Rattle.fluid_table.specs.Table as table
use Rattle.fluid_types.specs.declared.messages.Message.{Message}
use Rattle.fluid_map.specs.declared.operation.MapOp.{MapOp}
use Rattle.fluid_map.specs.declared.operation.MapOp.TheVariants as op
use Rattle.fluid_map.specs.Replay as map
use Rattle.fluid_map.specs.Replay.{Values}
use Rattle.fluid_counter.specs.Counter as counter
use Rattle.fluid_edits.specs.Forms.{address_of, is_in_range, edit_of}
use Rattle.fluid_edits.specs.declared.edit.ChannelKind.{ChannelKind}
use Rattle.fluid_edits.specs.declared.edit.ChannelKind.TheVariants.{Map, Counter}
use Rattle.fluid_edits.specs.declared.edit.Edit.{Edit}
use Rattle.fluid_edits.specs.declared.edit.Edit.TheVariants.{Attach, Set, Delete, Clear, Increment}

-- a channel is a map with its keys and values, or a counter with its total
pub data Channel : Type 0 where
  a_map : Values → Channel
  a_counter : ℤ → Channel

-- the channels that stand, under their addresses
abbrev pub Channels : Type 0
Channels = table.Values Channel

abbrev pub no_channels : Channels
no_channels = empty

abbrev pub kind_of : Channel → ChannelKind
kind_of (a_map values) = Map
kind_of (a_counter total) = Counter

-- a channel as its attach makes it
abbrev pub fresh : ChannelKind → Channel
fresh Map = a_map empty
fresh Counter = a_counter (pos 0)

-- ---- for each address

-- which kind of channel an edit attaches at an address, if any
abbrev pub attached : List ℕ → Edit → Option ChannelKind
attached at (Attach address kind) = if bytes_eq at address then Some kind else None
attached at (Set address key value) = None
attached at (Delete address key) = None
attached at (Clear address) = None
attached at (Increment address amount) = None

-- what an edit says to a map at an address
abbrev pub to_map : List ℕ → Edit → Option MapOp
to_map at (Attach address kind) = None
to_map at (Set address key value) = if bytes_eq at address then Some (op.Set key value) else None
to_map at (Delete address key) = if bytes_eq at address then Some (op.Delete key) else None
to_map at (Clear address) = if bytes_eq at address then Some op.Clear else None
to_map at (Increment address amount) = None

-- what an edit says to a counter at an address; an amount beyond the range of the protocol says nothing
abbrev pub to_counter : List ℕ → Edit → Option ℤ
to_counter at (Attach address kind) = None
to_counter at (Set address key value) = None
to_counter at (Delete address key) = None
to_counter at (Clear address) = None
to_counter at (Increment address amount) = if bytes_eq at address && is_in_range amount then Some amount else None

-- a channel behind what is said to it
abbrev pub spoken_to : List ℕ → Channel → List Edit → Channel
spoken_to at (a_map values) edits = a_map (map.replay values (filter_map (to_map at) edits))
spoken_to at (a_counter total) edits = a_counter (counter.replay total (filter_map (to_counter at) edits))

-- the channel at an address behind edits, oldest first: the one that stood before, or else the first attach of the address,
-- and only the edits behind this attach speak to it
abbrev pub channel_behind : List ℕ → Option Channel → List Edit → Option Channel
channel_behind at (Some channel) edits = Some (spoken_to at channel edits)
channel_behind at None [] = None
channel_behind at None (edit ∷ edits) = channel_behind at (option_map fresh (attached at edit)) edits

-- ---- for all channels

-- what an edit makes of the channel at its address, if it counts for it
abbrev pub told_map : MapOp → Option Channel → Option Channel
told_map operation None = None
told_map operation (Some (a_map values)) = Some (a_map (map.after values operation))
told_map operation (Some (a_counter total)) = None

abbrev pub told_counter : ℤ → Option Channel → Option Channel
told_counter amount None = None
told_counter amount (Some (a_map values)) = None
told_counter amount (Some (a_counter total)) = if is_in_range amount then Some (a_counter (total +ℤ amount)) else None

-- a second attach of an address changes nothing
abbrev pub told_attach : ChannelKind → Option Channel → Option Channel
told_attach kind None = Some (fresh kind)
told_attach kind (Some channel) = None

abbrev pub told : Edit → Option Channel → Option Channel
told (Attach address kind) channel = told_attach kind channel
told (Set address key value) channel = told_map (op.Set key value) channel
told (Delete address key) channel = told_map (op.Delete key) channel
told (Clear address) channel = told_map op.Clear channel
told (Increment address amount) channel = told_counter amount channel

abbrev pub put_if_any : Channels → List ℕ → Option Channel → Channels
put_if_any channels at None = channels
put_if_any channels at (Some channel) = insert channels at channel

-- the channels behind one edit
abbrev pub after : Channels → Edit → Channels
after channels edit = put_if_any channels (address_of edit) (told edit (get channels (address_of edit)))

-- the channels behind edits, oldest first
abbrev pub replay_edits : Channels → List Edit → Channels
replay_edits channels edits = fold after channels edits

-- the channels behind messages, oldest first: a message that spells no edit counts for nothing
abbrev pub replay : Channels → List Message → Channels
replay channels messages = replay_edits channels (filter_map edit_of messages)
