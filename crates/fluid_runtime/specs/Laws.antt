-- What holds of the definitions.
use Rattle.std.specs.Prelude.{◌≡◌, ◌≢◌, ◌⊎◌, ℕ, ◌≤◌, List, [], ◌∷◌, map, Bool, true, false, Some, Ok, IsUtf8}
use Rattle.std.specs.List.{All, AllByRecursion}
use Rattle.std.specs.FinMap.{get, values}
use Rattle.fluid_table.specs.Table as table
use Rattle.fluid_json.specs.Tree.{IsCanonical, depth}
use Rattle.fluid_types.specs.Names.{IsName}
use Rattle.fluid_types.specs.declared.messages.Message.{Message}
use Rattle.fluid_map.specs.Content as map
use Rattle.fluid_counter.specs.Content as counter
use Rattle.fluid_tree.specs.Summary.{Summary, tree, children}
use Rattle.fluid_handles.specs.Resolved.{resolved}
use Rattle.fluid_edits.specs.Forms.{edit_of}
use Rattle.fluid_edits.specs.Replay.{Channel, a_map, a_counter, Channels}
use Rattle.fluid_runtime.specs.App.{after_message, changed_by, all_are}
use Rattle.fluid_runtime.specs.AppTree.{channel_node, app_tree, tree_since, answer}

-- ---- what is read back

-- a map whose text is UTF-8 and whose values are JSON as it is kept, at most 99 deep; a counter within plus or minus 2^120
abbrev pub IsStorable : Channel → Type 0
IsStorable (a_map kept) = IsUtf8 (map.content kept) × (All IsCanonical (values kept) × All (λ value. depth value ≤ 99) (values kept))
IsStorable (a_counter total) = counter.IsStorable total

-- such channels, under addresses that are names
abbrev pub AreStorable : Channels → Type 0
AreStorable channels = (at : List ℕ) (channel : Channel) → get channels at ≡ Some channel → IsName at × IsStorable channel

-- the channels that the tree of a summary keeps are read back
abbrev pub IsReadBack : Type 0
IsReadBack = (channels : Channels) → AreStorable channels → answer (app_tree channels) ≡ Ok channels

-- ---- entries in whatever order

abbrev pub Pairs : Type 0
Pairs = List (List ℕ × Channel)

-- no two of these have one address
abbrev pub AreApart : Pairs → Type 0
AreApart [] = Unit {0}
AreApart (e ∷ es) = AllByRecursion (λ f. e.0 ≢ f.0) es × AreApart es

-- one of them has this address
abbrev pub IsNamed : List ℕ → Pairs → Type 0
IsNamed at [] = ⊥
IsNamed at (e ∷ es) = (e.0 ≡ at) ⊎ IsNamed at es

-- these are the channels with their addresses, each once
pub record IsListOf (channels : Channels) (pairs : Pairs) : Type 0 where
  pub apart : AreApart pairs
  pub each : AllByRecursion (λ e. get channels e.0 ≡ Some e.1) pairs
  pub all : (at : List ℕ) (channel : Channel) → get channels at ≡ Some channel → IsNamed at pairs

-- the tree with their nodes in this order. Git's order is another than that of the addresses: there a folder `a` stands as `a/`, and so
-- behind a folder `a-b`
abbrev pub tree_in_order : Pairs → Summary
tree_in_order pairs = tree (children (map (λ e. (e.0, channel_node e.1)) pairs))

-- the same channels are read back from it
abbrev pub IsReadBackInAnyOrder : Type 0
IsReadBackInAnyOrder = (channels : Channels) (pairs : Pairs) → AreStorable channels → IsListOf channels pairs → answer (tree_in_order pairs) ≡ Ok channels

-- ---- what has changed since an earlier tree

-- a channel that is said not to have changed is the one of before
abbrev pub IsSince : Channels → table.Values Bool → Channels → Type 0
IsSince earlier changed channels = (at : List ℕ) → get changed at ≡ Some false → get earlier at ≡ get channels at

-- that is so where a mark is made
abbrev pub IsMarked : Type 0
IsMarked = (channels : Channels) → IsSince channels (all_are false channels) channels

-- and stays so
abbrev pub StaysSince : Type 0
StaysSince =
    (earlier channels : Channels) (changed : table.Values Bool) (message : Message) → IsSince earlier changed channels
    → IsSince earlier (changed_by channels changed (edit_of message)) (after_message channels message)

-- ---- without a mark

-- each channel is said to have changed
abbrev pub IsUnmarked : Channels → table.Values Bool → Type 0
IsUnmarked channels changed = changed ≡ all_are true channels

-- it stays so
abbrev pub StaysUnmarked : Type 0
StaysUnmarked =
    (channels : Channels) (changed : table.Values Bool) (message : Message) → IsUnmarked channels changed
    → IsUnmarked (after_message channels message) (changed_by channels changed (edit_of message))

-- and the tree that tells what has changed is the whole one, in which no handle stands
abbrev pub IsWholeUnmarked : Type 0
IsWholeUnmarked = (channels : Channels) (changed : table.Values Bool) → IsUnmarked channels changed → tree_since changed channels ≡ app_tree channels

-- ---- handles

-- with the nodes of the earlier tree in the places of its handles, a tree that tells what has changed is the whole one
abbrev pub IsResolved : Type 0
IsResolved =
    (earlier channels : Channels) (changed : table.Values Bool) → IsSince earlier changed channels
    → resolved (Some (app_tree earlier)) (tree_since changed channels) ≡ Ok (app_tree channels)
