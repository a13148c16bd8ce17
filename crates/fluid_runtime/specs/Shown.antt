-- What a client shows of channels, as JSON: an object with one member per channel, under its address.
use Rattle.std.specs.Prelude.{[], ◌∷◌, map, codes}
use Rattle.std.specs.Fmt.{signed_decimal}
use Rattle.std.specs.FinMap.{entries}
use Rattle.fluid_json.specs.Tree.{Tree, text, object, members}
use Rattle.fluid_map.specs.Content.{object_of}
use Rattle.fluid_edits.specs.declared.edit.ChannelKind.TheVariants.{Map, Counter}
use Rattle.fluid_edits.specs.Forms.{kind_word}
use Rattle.fluid_edits.specs.Replay.{Channel, a_map, a_counter, Channels}

-- {"kind":"map","value":{..}}, or {"kind":"counter","value":"N"} with N in decimal
abbrev pub shown_channel : Channel → Tree
shown_channel (a_map values) = object (members ((codes "kind", text (kind_word Map)) ∷ (codes "value", object_of values) ∷ []))
shown_channel (a_counter total) = object (members ((codes "kind", text (kind_word Counter)) ∷ (codes "value", text (signed_decimal total)) ∷ []))

abbrev pub shown : Channels → Tree
shown channels = object (members (map (λ e. (e.0, shown_channel e.1)) (entries channels)))
