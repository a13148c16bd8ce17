-- The kind of the channel that pending edits leave visible under an address.
use Rattle.std.proofs.Common.{◌≡◌, ℕ, List, [], ◌∷◌, Option, Some, None, option_map, refl, ap, ◌∙◌}
use Rattle.std.specs.Option.{option_or}
use Rattle.std.specs.FinMap.{get}
use Rattle.fluid_edits.specs.declared.edit.ChannelKind.{ChannelKind}
use Rattle.fluid_edits.specs.declared.edit.ChannelKind.TheVariants.{Map, Counter}
use Rattle.fluid_edits.specs.declared.edit.Edit.{Edit}
use Rattle.fluid_edits.specs.Replay.{Channel, a_map, a_counter, Channels, kind_of, fresh, attached, spoken_to, channel_behind, replay_edits}
use Rattle.fluid_edits.proofs.Replays.{first_attach_law}
use Rattle.fluid_runtime.specs.Kinds.{first_attached}

same_kind : (at : List ℕ) (channel : Channel) (edits : List Edit) → kind_of (spoken_to at channel edits) ≡ kind_of channel
same_kind at (a_map values) edits = refl
same_kind at (a_counter total) edits = refl

fresh_kind : (kind : ChannelKind) → kind_of (fresh kind) ≡ kind
fresh_kind Map = refl
fresh_kind Counter = refl

by_attach : (at : List ℕ) (edits : List Edit) (kind : Option ChannelKind) → option_map kind_of (channel_behind at None edits) ≡ first_attached at edits
    → option_map kind_of (channel_behind at (option_map fresh kind) edits) ≡ option_or kind (first_attached at edits)
by_attach at edits None rest = rest
by_attach at edits (Some kind) rest = ap Some (same_kind at (fresh kind) edits ∙ fresh_kind kind)

kind_behind : (at : List ℕ) (edits : List Edit) → option_map kind_of (channel_behind at None edits) ≡ first_attached at edits
kind_behind at [] = refl
kind_behind at (edit ∷ edits) = by_attach at edits (attached at edit) (kind_behind at edits)

-- a channel that stands keeps its kind
pub kind_found : (channels : Channels) (edits : List Edit) (at : List ℕ) (channel : Channel) → get channels at ≡ Some channel
    → option_map kind_of (get (replay_edits channels edits) at) ≡ Some (kind_of channel)
kind_found channels edits at channel is =
    ap (option_map kind_of) (first_attach_law channels edits at ∙ ap (λ c. channel_behind at c edits) is) ∙ ap Some (same_kind at channel edits)

-- and else the first attach among the edits says it
pub kind_pending : (channels : Channels) (edits : List Edit) (at : List ℕ) → get channels at ≡ None → option_map kind_of (get (replay_edits channels edits) at) ≡ first_attached at edits
kind_pending channels edits at is = ap (option_map kind_of) (first_attach_law channels edits at ∙ ap (λ c. channel_behind at c edits) is) ∙ kind_behind at edits
