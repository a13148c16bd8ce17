-- The edit that a text spells as the contents of an op.
use Rattle.std.specs.Prelude.{ℕ, List, Bool, Option, Some, option_map, Result, Ok, Err, if◌then◌else◌}
use Rattle.fluid_json.specs.Tree.{Tree}
use Rattle.fluid_json.specs.Spelled.{reaches, answer}
use Rattle.fluid_json.specs.declared.fault.JsonFault.{JsonFault}
use Rattle.fluid_json.specs.declared.fault.JsonFault.TheVariants.{NotJson, NotWhole, TooDeep, NoMemory}
use Rattle.fluid_json.specs.declared.nesting.Place.TheVariants.{Outside}
use Rattle.fluid_edits.specs.declared.edit.Edit.{Edit}
use Rattle.fluid_edits.specs.Forms.{edit_in}

-- what is read of a text that is JSON but too deep is held back; one that isn't JSON is that
abbrev pub held_back : Bool → Result Tree JsonFault → Result Tree JsonFault
held_back deep (Ok contents) = if deep then Err TooDeep else Ok contents
held_back deep (Err NotJson) = Err NotJson
held_back deep (Err NotWhole) = if deep then Err TooDeep else Err NotWhole
held_back deep (Err TooDeep) = Err TooDeep
held_back deep (Err NoMemory) = Err NoMemory

-- the contents that a text spells: at most 98 deep, since they stand in the op's record inside two objects more
abbrev pub contents_spelled : List ℕ → Result Tree JsonFault
contents_spelled text = held_back (reaches 99 Outside 0 text) (answer text)

-- contents that have none of the five forms are none of an op
abbrev pub op_of : Result Tree JsonFault → Option (Result Edit JsonFault)
op_of (Ok contents) = option_map Ok (edit_in contents)
op_of (Err fault) = Some (Err fault)

-- the edit, or why the text isn't the JSON of contents; none where it is JSON of none of the five forms
abbrev pub op_spelled : List ℕ → Option (Result Edit JsonFault)
op_spelled text = op_of (contents_spelled text)
