-- What is read of a summary's tree, as the channels that it stands for.
use Rattle.std.specs.Prelude.{ℕ, List, Option, option_and_then, Result, Ok, Err, codes}
use Rattle.std.specs.Option.{ok_or}
use Rattle.fluid_table.specs.Table as table
use Rattle.fluid_tree.specs.Summary.{Summary, as_blob}
use Rattle.fluid_types.specs.declared.fault.BlobFault.{BlobFault}
use Rattle.fluid_types.specs.declared.fault.BlobFault.TheVariants.{BadBlob}
use Rattle.fluid_edits.specs.declared.edit.ChannelKind.{ChannelKind}
use Rattle.fluid_edits.specs.Replay.{Channel, Channels}
use Rattle.fluid_runtime.specs.AppTree.{path, content_in}
use Rattle.fluid_runtime.specs.Slots.{channel_of_object, channels_of}
use Rattle.fluid_runtime.specs.declared.slots.Object.{Object}
use Rattle.fluid_runtime.specs.declared.slots.Slot.{Slot}

abbrev pub read_object : Result Object BlobFault → Result Channel BlobFault
read_object (Ok object) = Ok (channel_of_object object)
read_object (Err fault) = Err fault

abbrev pub read_slots : Result (table.Table Slot) BlobFault → Result Channels BlobFault
read_slots (Ok slots) = Ok (channels_of slots.values)
read_slots (Err fault) = Err fault

-- the channel that the node of the content says, where a kind is said or not
abbrev pub content_answer : List ℕ → Option ChannelKind → Summary → Result Channel BlobFault
content_answer at kind s = ok_or (option_and_then (content_in kind) (as_blob s)) (BadBlob (path at (codes "content")))
