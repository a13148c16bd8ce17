-- What holds of the definitions.
use Rattle.std.specs.Prelude.{◌≡◌, ℕ, List, ◌++◌, Some}
use Rattle.std.specs.FinMap.{get}
use Rattle.fluid_types.specs.Names.{IsName}
use Rattle.fluid_types.specs.declared.messages.Message.{Message}
use Rattle.fluid_edits.specs.declared.edit.Edit.{Edit}
use Rattle.fluid_edits.specs.Forms.{address_of, edit_in, contents_of}
use Rattle.fluid_edits.specs.Replay.{Channels, channel_behind, replay_edits, replay}

-- a replay has at each address what edits make of the channel there: the first attach counts, and what stands behind it
abbrev pub IsFirstAttach : Type 0
IsFirstAttach = (channels : Channels) (edits : List Edit) (at : List ℕ) → get (replay_edits channels edits) at ≡ channel_behind at (get channels at) edits

-- a replay may stop and go on
abbrev pub IsReplayedOn : Type 0
IsReplayedOn = (channels : Channels) (earlier later : List Message) → replay channels (earlier ++ later) ≡ replay (replay channels earlier) later

-- the contents of an edit's op spell the edit
abbrev pub IsSpelled : Type 0
IsSpelled = (edit : Edit) → IsName (address_of edit) → edit_in (contents_of edit) ≡ Some edit
