-- Why an edit is refused.
use Rattle.std.specs.Prelude.{Option, Some, None, option_map, Result, Ok, Err, if◌then◌else◌}
use Rattle.std.specs.FinMap.{get}
use Rattle.fluid_json.specs.Tree.{Tree}
use Rattle.fluid_edits.specs.declared.edit.ChannelKind.{ChannelKind}
use Rattle.fluid_edits.specs.declared.edit.ChannelKind.TheVariants.{Map, Counter}
use Rattle.fluid_edits.specs.declared.edit.Edit.{Edit}
use Rattle.fluid_edits.specs.declared.edit.Edit.TheVariants.{Attach, Set, Delete, Clear, Increment}
use Rattle.fluid_edits.specs.Forms.{address_of, is_in_range, contents_of}
use Rattle.fluid_edits.specs.Replay.{Channels, kind_of}
use Rattle.fluid_runtime.specs.declared.fault.EditFault.{EditFault}
use Rattle.fluid_runtime.specs.declared.fault.EditFault.TheVariants.{NoChannel, WrongKind, OutOfRange, Exists}

-- an edit of maps
abbrev pub of_map : Option ChannelKind → Option EditFault
of_map None = Some NoChannel
of_map (Some Map) = None
of_map (Some Counter) = Some WrongKind

-- by the kind of the channel that is visible under its address, if any is
abbrev pub refusal : Edit → Option ChannelKind → Option EditFault
refusal (Attach address kind) None = None
refusal (Attach address kind) (Some visible) = Some Exists
refusal (Set address key value) visible = of_map visible
refusal (Delete address key) visible = of_map visible
refusal (Clear address) visible = of_map visible
refusal (Increment address amount) None = Some NoChannel
refusal (Increment address amount) (Some Map) = Some WrongKind
refusal (Increment address amount) (Some Counter) = if is_in_range amount then None else Some OutOfRange

abbrev pub unless_refused : Edit → Option EditFault → Result Tree EditFault
unless_refused edit None = Ok (contents_of edit)
unless_refused edit (Some fault) = Err fault

-- the answer to an edit of these visible channels: why it is refused, or the contents of its op
abbrev pub answer : Channels → Edit → Result Tree EditFault
answer visible edit = unless_refused edit (refusal edit (option_map kind_of (get visible (address_of edit))))
