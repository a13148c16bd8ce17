-- Which kind of channel pending edits attach.
use Rattle.std.specs.Prelude.{ℕ, List, [], ◌∷◌, Option, None}
use Rattle.std.specs.Option.{option_or}
use Rattle.fluid_edits.specs.declared.edit.ChannelKind.{ChannelKind}
use Rattle.fluid_edits.specs.declared.edit.Edit.{Edit}
use Rattle.fluid_edits.specs.Replay.{attached}

-- the kind of the first attach of the address
abbrev pub first_attached : List ℕ → List Edit → Option ChannelKind
first_attached at [] = None
first_attached at (edit ∷ edits) = option_or (attached at edit) (first_attached at edits)
