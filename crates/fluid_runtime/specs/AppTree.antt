-- The tree in which a summary keeps channels: a subtree per channel, named by its address, with the blobs `content` and `kind`.
use Rattle.std.specs.Prelude.{◌≡◌, ℕ, ◌≤◌, List, [], ◌∷◌, ◌++◌, Bool, true, not, ◌&&◌, map, Option, Some, None, is_some, option_and_then, Result, Ok, Err, if◌then◌else◌, bytes_eq, codes}
use Rattle.std.specs.Option.{ok_or, unwrap_or}
use Rattle.std.specs.Ordering.{is_lt}
use Rattle.std.specs.List.{All}
use Rattle.std.specs.FinMap.{entries, get, insert, values}
use Rattle.fluid_json.specs.Tree.{depth}
use Rattle.fluid_table.specs.Table as table
use Rattle.fluid_table.specs.Table.{byte_order}
use Rattle.fluid_tree.specs.Summary.{Summary, blob, tree, handle, Children, no_children, child, children, as_blob, as_children}
use Rattle.fluid_types.specs.Names.{is_name}
use Rattle.fluid_types.specs.declared.fault.BlobFault.{BlobFault}
use Rattle.fluid_types.specs.declared.fault.BlobFault.TheVariants.{BadBlob}
use Rattle.fluid_map.specs.Content as map
use Rattle.fluid_counter.specs.Content as counter
use Rattle.fluid_edits.specs.declared.edit.ChannelKind.{ChannelKind}
use Rattle.fluid_edits.specs.declared.edit.ChannelKind.TheVariants.{Map, Counter}
use Rattle.fluid_edits.specs.Forms.{kind_word, kind_named}
use Rattle.fluid_edits.specs.Replay.{Channel, a_map, a_counter, Channels, no_channels, kind_of, fresh}

-- ---- writing

-- a map's content is the printed object of its keys and values, a counter's {"value":"N"}
abbrev pub content_of : Channel → List ℕ
content_of (a_map values) = map.content values
content_of (a_counter total) = counter.content total

abbrev pub channel_node : Channel → Summary
channel_node channel = tree (children ((codes "content", blob (content_of channel)) ∷ (codes "kind", blob (kind_word (kind_of channel))) ∷ []))

abbrev pub app_tree : Channels → Summary
app_tree channels = tree (children (map (λ e. (e.0, channel_node e.1)) (entries channels)))

-- a channel that hasn't changed since an earlier tree is a handle of its address in that tree
abbrev pub node_since : table.Values Bool → List ℕ → Channel → Summary
node_since changed at channel = if unwrap_or (get changed at) true then channel_node channel else handle (at ∷ [])

abbrev pub tree_since : table.Values Bool → Channels → Summary
tree_since changed channels = tree (children (map (λ e. (e.0, node_since changed e.0 e.1)) (entries channels)))

-- ---- reading: the channels, or the path of the first blob, in the order in which they stand, that is missing or outside its form

infixl 1 ◌>>=◌
abbrev pub ◌>>=◌ : {A B : Type 0} → Result A BlobFault → (A → Result B BlobFault) → Result B BlobFault
Ok a >>= f = f a
Err e >>= f = Err e

-- the path of an entry of a channel's subtree
abbrev pub path : List ℕ → List ℕ → List ℕ
path at name = at ++ (codes "/" ++ name)

-- the first entry of this name
abbrev pub find_child : List ℕ → Children → Option Summary
find_child name no_children = None
find_child name (child n s cs) = if bytes_eq n name then Some s else find_child name cs

abbrev pub kind_in : Summary → Option ChannelKind
kind_in s = option_and_then kind_named (as_blob s)

-- a blob of the content of this kind
abbrev pub channel_in : ChannelKind → List ℕ → Option Channel
channel_in Map content = if map.is_content content then Some (a_map (map.values_in content)) else None
channel_in Counter content = if counter.is_content content then Some (a_counter (counter.total_in content)) else None

-- where no kind is said, any content is in its form, and the kind is named
abbrev pub content_in : Option ChannelKind → List ℕ → Option Channel
content_in None content = Some (fresh Map)
content_in (Some kind) content = channel_in kind content

-- of another entry and the one that is wanted, the one that stands first; the wanted one is missing then
abbrev pub first_of : List ℕ → List ℕ → List ℕ
first_of name wanted = if is_lt (byte_order name wanted) then name else wanted

-- the entry of the wanted name, which is the next, and those behind it
abbrev pub next : List ℕ → List ℕ → Children → Result (Summary × Children) BlobFault
next at wanted no_children = Err (BadBlob (path at wanted))
next at wanted (child n s cs) = if bytes_eq n wanted then Ok (s, cs) else Err (BadBlob (path at (first_of n wanted)))

-- no entry is left
abbrev pub end : List ℕ → Children → Channel → Result Channel BlobFault
end at no_children channel = Ok channel
end at (child n s cs) channel = Err (BadBlob (path at n))

-- the subtree of a channel: its content, its kind, and nothing else
abbrev pub channel_answer : List ℕ → Children → Result Channel BlobFault
channel_answer at cs =
    next at (codes "content") cs >>= λ first.
    ok_or (option_and_then (content_in (option_and_then kind_in (find_child (codes "kind") first.1))) (as_blob first.0)) (BadBlob (path at (codes "content"))) >>= λ channel.
    next at (codes "kind") first.1 >>= λ second.
    ok_or (kind_in second.0) (BadBlob (path at (codes "kind"))) >>= λ kind.
    end at second.1 channel

abbrev pub subtree : List ℕ → Option Children → Result Channel BlobFault
subtree at None = Err (BadBlob at)
subtree at (Some cs) = channel_answer at cs

-- an entry is a tree named by an address, each address once
abbrev pub entry_answer : Channels → List ℕ → Summary → Result Channel BlobFault
entry_answer channels at s = if is_name at && not (is_some (get channels at)) then subtree at (as_children s) else Err (BadBlob at)

abbrev pub channels_answer : Channels → Children → Result Channels BlobFault
channels_answer channels no_children = Ok channels
channels_answer channels (child n s cs) = entry_answer channels n s >>= λ channel. channels_answer (insert channels n channel) cs

abbrev pub tree_answer : Option Children → Result Channels BlobFault
tree_answer None = Err (BadBlob [])
tree_answer (Some cs) = channels_answer no_channels cs

-- the channels of a summary's tree; a node that is no tree has the fault of the empty path
unfoldable pub answer : Summary → Result Channels BlobFault
answer s = tree_answer (as_children s)

-- ---- reading back

-- a counter within plus or minus 2^120, a map whose values are at most 99 deep
abbrev pub IsBounded : Channel → Type 0
IsBounded (a_map kept) = All (λ value. depth value ≤ 99) (values kept)
IsBounded (a_counter total) = counter.IsStorable total

abbrev pub AreBounded : Channels → Type 0
AreBounded channels = (at : List ℕ) (channel : Channel) → get channels at ≡ Some channel → IsBounded channel

-- the content of such a channel is read as that channel
abbrev pub IsReadAsItself : Channel → Type 0
IsReadAsItself channel = IsBounded channel → channel_in (kind_of channel) (content_of channel) ≡ Some channel
