-- The states as tuples of their parts.
use Rattle.std.specs.Prelude.{◌≡◌, ℤ, ◌⊎◌, refl}
use Rattle.std.proofs.Common.{inl, inr}
use Rattle.std.specs.Coded.{Coded, code_by, coded⊎, coded_ℤ}
use Rattle.fluid_json.specs.Tree.{Tree}
use Rattle.fluid_json.specs.Code.{tree_code}
use Rattle.fluid_table.specs.Table as table
use Rattle.fluid_map.specs.Replay.{Values}
use Rattle.fluid_edits.specs.Replay.{Channel, a_map, a_counter, Channels}

abbrev pub parts_of : Channel → Values ⊎ ℤ
parts_of (a_map values) = inl values
parts_of (a_counter total) = inr total

abbrev pub of_parts : Values ⊎ ℤ → Channel
of_parts (inl values) = a_map values
of_parts (inr total) = a_counter total

abbrev pub of_parts-parts_of : (channel : Channel) → of_parts (parts_of channel) ≡ channel
of_parts-parts_of (a_map values) = refl
of_parts-parts_of (a_counter total) = refl

abbrev pub channel_code : Coded Channel
channel_code = code_by (Values ⊎ ℤ) (coded⊎ (table.values_code Tree tree_code) coded_ℤ) parts_of of_parts of_parts-parts_of

abbrev pub channels_code : Coded Channels
channels_code = table.values_code Channel channel_code
