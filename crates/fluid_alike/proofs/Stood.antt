-- The tree of channels stands where its objects are held, and so does that of a quorum.
use Rattle.std.proofs.Common.{◌≡◌, ℕ, List, [], ◌∷◌, map, Ok, All, refl, ap, subst, ◌∙◌}
use Rattle.std.specs.FinMap.{entries}
use Rattle.sha1.specs.Sha1.{sha1}
use Rattle.fluid_types.specs.declared.messages.Message.{Message}
use Rattle.fluid_tree.specs.Identity.{id_within, entries_within, id_answer, unrefused, ◌>>=◌}
use Rattle.fluid_tree.specs.Names.{first_refused}
use Rattle.fluid_tree.specs.Object.{tree_bytes}
use Rattle.fluid_tree.specs.Summary.{children, is_tree}
use Rattle.fluid_tree.specs.declared.object.ObjectEntry.{ObjectEntry}
use Rattle.fluid_readback.specs.Quorums.{IsReadAsItself}
use Rattle.fluid_edits.specs.Replay.{Channel, a_map, a_counter, Channels, no_channels, replay}
use Rattle.fluid_runtime.specs.AppTree.{app_tree, channel_node}
use Rattle.fluid_store.specs.Held.{Held}
use Rattle.fluid_store.specs.Keeping.{Holds}
use Rattle.fluid_store.specs.Listed.{own_bytes, objects}
use Rattle.fluid_store.specs.Standing.{Stands}
use Rattle.fluid_alike.proofs.Held.{stands}
use Rattle.fluid_loader.specs.Container.{empty}
use Rattle.fluid_loader.specs.Laws.{AreNamed, IsReplayBehind, StayBased}
use Rattle.fluid_holding.proofs.Taken.{names_good}

-- ---- the names of channels that messages made

pub replay_named : IsReplayBehind → StayBased → (held : Held) (ms : List Message) → All IsReadAsItself ms → AreNamed (replay no_channels ms)
replay_named replays based held ms all = subst AreNamed (replays [] empty ms) (based.behind_messages held [] empty ms all (based.begins held)).named

-- ---- the id of their tree

channel_id : (c : Channel) → (i : List ℕ) × (id_within 31 (channel_node c) ≡ Ok i)
unfolding id_within entries_within first_refused
channel_id (a_map values) = (_, refl)
channel_id (a_counter total) = (_, refl)

each_id : (es : List (List ℕ × Channel)) → (made : List ObjectEntry) × (entries_within 31 (children (map (λ e. (e.0, channel_node e.1)) es)) ≡ Ok made)
unfolding entries_within
each_id [] = ([], refl)
each_id (e ∷ es) =
    let own = channel_id e.1 in
    let more = each_id es in (
      record { name = e.0; tree = is_tree (channel_node e.1); id = own.0 } ∷ more.0,
      ap (λ r. r >>= λ i. entries_within 31 (children (map (λ e. (e.0, channel_node e.1)) es)) >>= λ entries. Ok (record { name = e.0; tree = is_tree (channel_node e.1); id = i } ∷ entries)) own.1
          ∙ ap (λ r. r >>= λ entries. Ok (record { name = e.0; tree = is_tree (channel_node e.1); id = own.0 } ∷ entries)) more.1,
    )

pub app_has_id : (channels : Channels) → AreNamed channels → (i : List ℕ) × (id_answer (app_tree channels) ≡ Ok i)
unfolding id_within
app_has_id channels named =
    let good = names_good channels named (λ e. channel_node e.1) in
    let made = each_id (entries channels) in (
      sha1 (tree_bytes made.0),
      ap (λ o. unrefused o >>= λ ok. entries_within 31 (children (map (λ e. (e.0, channel_node e.1)) (entries channels))) >>= λ entries. Ok (sha1 (tree_bytes entries))) good
          ∙ ap (λ r. r >>= λ entries. Ok (sha1 (tree_bytes entries))) made.1,
    )

pub app_stands : (held : Held) (channels : Channels) → AreNamed channels → Holds held (objects (app_tree channels)) → Stands held (sha1 (own_bytes (app_tree channels))) (app_tree channels)
app_stands held channels named holds = let own = app_has_id channels named in stands held 32 (app_tree channels) own.0 own.1 holds
