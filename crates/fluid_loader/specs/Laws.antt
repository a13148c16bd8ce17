-- What holds of containers: one that begins with an honest summary and takes in the messages behind it is one that has taken in all.
use Rattle.std.specs.Prelude.{◌≡◌, ℕ, ◌-◌, length, List, [], ◌∷◌, take, drop, Bool, All, Option, Some, None, Ok, codes, ◌≤◌, ◌++◌}
use Rattle.std.specs.FinMap.{get}
use Rattle.fluid_table.specs.Table.{Values}
use Rattle.fluid_types.specs.Names.{IsName}
use Rattle.fluid_types.specs.Blobs.{blobs}
use Rattle.fluid_types.specs.Quorum.{quorum, quorum_of}
use Rattle.fluid_types.specs.declared.messages.Message.{Message}
use Rattle.fluid_tree.specs.Summary.{Summary, tree, child, no_children}
use Rattle.fluid_tree.specs.declared.id.SummaryRef.{SummaryRef}
use Rattle.fluid_readback.specs.Quorums.{IsReadAsItself}
use Rattle.fluid_rules.specs.Scribe.{protocol, tree_entry}
use Rattle.fluid_edits.specs.Replay.{Channel, Channels, no_channels, replay}
use Rattle.fluid_runtime.specs.Laws.{IsSince, IsUnmarked, Pairs, IsListOf, tree_in_order}
use Rattle.fluid_runtime.specs.AppTree.{app_tree, tree_since}
use Rattle.fluid_loader.specs.Version.{AVersion, version_at}
use Rattle.fluid_store.specs.Fetching.{fetched}
use Rattle.fluid_store.specs.Held.{Held, Keeps, IsShort}
use Rattle.fluid_store.specs.Standing.{Stands}
use Rattle.fluid_store.specs.Uploading.{IsEarlier, StandsResolved}
use Rattle.fluid_tree.specs.Object.{tree_bytes}
use Rattle.fluid_loader.specs.Calls.{begun_in, since}
use Rattle.fluid_loader.specs.declared.fault.LoadFault.{LoadFault}
use Rattle.fluid_loader.specs.declared.fault.LoadFault.TheVariants.{BadSummary}
use Rattle.fluid_loader.specs.Container.{AContainer, empty, begun, behind}
use Rattle.fluid_loader.specs.Link.{Document, IsOrder, IsDocument, Linked, BothTell, picked}
use Rattle.fluid_loader.specs.declared.link.Pick.{Pick}

-- the channels behind the first messages of an order
abbrev pub replayed : List Message → ℕ → Channels
replayed order number = replay no_channels (take number order)

-- the tree of a version
abbrev pub version_tree : Summary → Summary → Summary
version_tree app state = tree (child (codes ".app") app (child (codes ".protocol") state no_children))

-- a summary is honest where this version stands under its handle: its channels are the replay of the first messages up to its number,
-- and its `.protocol` has the blobs of their quorum
abbrev pub IsHonest : Held → List Message → SummaryRef → Type 0
IsHonest held order summary = Stands held summary.handle (version_tree (app_tree (replayed order summary.number)) (protocol (blobs order summary.number)))

-- so is the one that is picked, if any is
abbrev pub IsHonestPick : Pick → Document → Type 0
IsHonestPick pick document = (summary : SummaryRef) → picked pick document.order ≡ Some summary → IsHonest document.held document.order summary

-- ---- the tree since which it is told what has changed

-- channels stand under names
abbrev pub AreNamed : Channels → Type 0
AreNamed channels = (at : List ℕ) (channel : Channel) → get channels at ≡ Some channel → IsName at

-- earlier channels, whose tree is read under the id, with its nodes in whatever order, since which it is told what has changed
pub record IsSinceTree (held : Held) (base : List ℕ) (channels : Channels) (changed : Values Bool) : Type 0 where
  pub earlier : Channels
  pub pairs : Pairs
  pub are : IsListOf earlier pairs
  pub reads : fetched held 32 base ≡ Ok (tree_in_order pairs)
  pub since : IsSince earlier changed channels

abbrev pub IsBasedOn : Held → Option (List ℕ) → Channels → Values Bool → Type 0
IsBasedOn held None channels changed = IsUnmarked channels changed
IsBasedOn held (Some base) channels changed = IsSinceTree held base channels changed

-- the channels stand under names, and the tree since which a container tells what has changed is held under its id; without one all
-- has changed
pub record IsBased (held : Held) (c : AContainer) : Type 0 where
  pub named : AreNamed c.channels
  pub on : IsBasedOn held c.base c.channels c.changed

-- ---- a container of a document

-- the messages of an order behind one number, up to another
abbrev pub between : ℕ → ℕ → List Message → List Message
between low high order = take (high - low) (drop low order)

-- the same channels, quorum, number and head, whatever edits of its own are laid over
pub record AreAbreast (c d : AContainer) : Type 0 where
  pub channels : c.channels ≡ d.channels
  pub quorum : c.quorum ≡ d.quorum
  pub number : c.number ≡ d.number
  pub head : c.head ≡ d.head

-- a container of the document: the messages of the order up to its number have made it of what it began with, and the tree since which
-- it tells what has changed is held
pub record IsBehind (client : List ℕ) (first : AContainer) (document : Document) (c : AContainer) : Type 0 where
  pub begins : first.number ≤ c.number
  pub within : c.number ≤ length document.order
  pub abreast : AreAbreast c (behind client first (between first.number c.number document.order))
  pub based : IsBased document.held c

-- a document that others have gone on with: its order is longer, and what was held is still held
pub record Grows (d e : Document) : Type 0 where
  pub more : List Message
  pub order : e.order ≡ d.order ++ more
  pub held : Keeps d.held e.held

-- whatever it began with, a container of the document before a call is one of the document behind it
abbrev pub StaysBehind : AContainer → AContainer → Linked → Linked → Type 0
StaysBehind old new before after =
    (first : AContainer) → BothTell (λ d e. IsBehind before.client first d old → IsBehind before.client first e new) before.told after.told

-- ---- a bad summary

abbrev pub IsNoBadSummary : LoadFault → Type 0
IsNoBadSummary fault = (path : List ℕ) → fault ≡ BadSummary path → ⊥

-- ---- a whole replay

-- the container has all channels and the quorum of the document's order, and nothing pending; the tree since which it tells what has
-- changed stands under its id
pub record HasReplayed (document : Document) (c : AContainer) : Type 0 where
  pub channels : c.channels ≡ replay no_channels document.order
  pub quorum : c.quorum ≡ quorum_of document.order
  pub pending : c.pending ≡ []
  pub based : IsBased document.held c

-- the container is behind the first messages of the order up to its number, whatever it has pending
pub record Follows (order : List Message) (c : AContainer) : Type 0 where
  pub within : c.number ≤ length order
  pub channels : c.channels ≡ replayed order c.number
  pub quorum : c.quorum ≡ quorum order c.number

-- the container has taken in the whole order: its channels and its quorum are those behind all messages
pub record HasTakenAll (document : Document) (c : AContainer) : Type 0 where
  pub number : c.number ≡ length document.order
  pub channels : c.channels ≡ replay no_channels document.order
  pub quorum : c.quorum ≡ quorum_of document.order

-- ---- laws

-- the channels of a container behind messages are the replay of these from its channels
abbrev pub IsReplayBehind : Type 0
IsReplayBehind = (client : List ℕ) (c : AContainer) (messages : List Message) → (behind client c messages).channels ≡ replay c.channels messages

-- the number of an acknowledged summary is one of the order
abbrev pub ArePickedWithin : Type 0
ArePickedWithin = (pick : Pick) (order : List Message) (summary : SummaryRef) → IsOrder order → picked pick order ≡ Some summary → summary.number ≤ length order

-- an honest summary of a number of the order is read
abbrev pub IsHonestRead : Type 0
IsHonestRead =
    (document : Document) (summary : SummaryRef) → IsDocument document → summary.number ≤ length document.order → IsHonest document.held document.order summary
    → (v : AVersion) × (version_at document.held summary ≡ Ok v)

-- a container that begins with nothing, or with an honest summary, is one that has taken in the whole order once it has taken in the
-- messages behind its number
abbrev pub IsWholeReplay : Type 0
IsWholeReplay =
    (client : List ℕ) (document : Document) (pick : Pick) (first : AContainer) → IsOrder document.order → IsHonestPick pick document → begun_in pick document ≡ Ok first
    → HasReplayed document (behind client first (drop first.number document.order))

-- what a container uploads is the tree of its channels: the tree that is put over its base stands as the whole one
abbrev pub IsWholeUpload : Type 0
IsWholeUpload =
    (c : AContainer) (old new : Held) (id : List ℕ) → IsBased old c
    → ((earlier : Option Summary) → IsEarlier old c.base earlier → StandsResolved new earlier (tree_since c.changed c.channels) id) → Stands new id (app_tree c.channels)

-- a container that begins with nothing, or with a version that is read, has such a base, and keeps one behind messages and where the
-- store grows; one that has uploaded its tree has that as its base
pub record StayBased : Type 0 where
  pub begins : (held : Held) → IsBased held empty
  pub loads : (held : Held) (summary : SummaryRef) (v : AVersion) → version_at held summary ≡ Ok v → IsBased held (begun v.channels v.quorum summary.number v.base)
  pub behind_messages : (held : Held) (client : List ℕ) (c : AContainer) (messages : List Message) → All IsReadAsItself messages → IsBased held c → IsBased held (behind client c messages)
  pub store_grows : (old new : Held) (c : AContainer) → Keeps old new → IsBased old c → IsBased new c
  pub uploaded : (held : Held) (c : AContainer) (id : List ℕ) → IsShort held → AreNamed c.channels → Stands held id (app_tree c.channels) → IsBased held (since c id)

-- a version whose `.app` is the tree that was uploaded at a number of the order, and whose `.protocol` has the blobs there, is honest
abbrev pub IsHonestVersion : Type 0
IsHonestVersion =
    (held : Held) (order : List Message) (summary : SummaryRef) (app state : List ℕ) → length app ≡ 20 → length state ≡ 20 → Stands held app (app_tree (replayed order summary.number))
    → Stands held state (protocol (blobs order summary.number))
    → get held summary.handle ≡ Some (tree_bytes (tree_entry (codes ".app") app ∷ tree_entry (codes ".protocol") state ∷ [])) → IsHonest held order summary

-- a container follows an order from nothing, or from an honest summary, and still does where the order has become longer and where more
-- of its messages were taken in; and a container of a document is one of what it has grown to
pub record GoOnFollowing : Type 0 where
  pub begins : (order : List Message) → Follows order empty
  pub honest : (document : Document) (pick : Pick) (first : AContainer) → IsOrder document.order → IsHonestPick pick document → begun_in pick document ≡ Ok first → Follows document.order first
  pub longer : (order more : List Message) (c : AContainer) → Follows order c → Follows (order ++ more) c
  pub grows : (client : List ℕ) (first c : AContainer) (d e : Document) → Grows d e → IsBehind client first d c → IsBehind client first e c
  pub goes_on : (client : List ℕ) (document : Document) (first c : AContainer) → IsOrder document.order → Follows document.order first → IsBehind client first document c
      → Follows document.order c
