-- The text of a checkpoint: one JSON object (RFC 8259) with what is kept of a document's first entries. The members of each
-- object stand in byte order of their names.
use Rattle.std.specs.Prelude.{ℕ, List, [], ◌∷◌, ◌++◌, map, codes}
use Rattle.std.specs.FinMap.{entries}
use Rattle.hex.specs.Hex.{encode_lower}
use Rattle.fluid_json.specs.Tree.{Tree, boolean, text, list, object, trees, members}
use Rattle.fluid_json.specs.Printed.{printed}
use Rattle.fluid_types.specs.Printed.{Row as Pair, count_tree, scopes_tree, message_tree}
use Rattle.fluid_types.specs.Blobs.{blob_tree, list_tree}
use Rattle.fluid_types.specs.Words.{blob_word, quorum_blobs}
use Rattle.fluid_types.specs.Quorum.{Quorum}
use Rattle.fluid_tree.specs.declared.id.SummaryRef.{SummaryRef}
use Rattle.fluid_clients.specs.declared.table.Row.{Row}
use Rattle.fluid_checkpoint.specs.declared.state.State.{State}
use Rattle.fluid_checkpoint.specs.declared.version.Version.{Version}
use Rattle.fluid_checkpoint.specs.declared.version.Version.TheVariants.{One, Two}

abbrev pub version_number : Version → ℕ
version_number One = 1
version_number Two = 2

-- ---- items

abbrev pub ack_tree : SummaryRef → Tree
ack_tree ack = object (members ((codes "handle", text (encode_lower ack.handle)) ∷ (codes "number", count_tree ack.number) ∷ []))

-- a client without its moment
abbrev pub client_tree : List ℕ × Row → Tree
client_tree (id, row) =
    object
    (members
    ((codes "id", text id)
    ∷ (codes "last", count_tree row.last)
    ∷ (codes "nacked", boolean row.nacked)
    ∷ (codes "reference", count_tree row.reference)
    ∷ (codes "scopes", scopes_tree row.scopes)
    ∷ []))

abbrev pub moment_tree : List ℕ × ℕ → Tree
moment_tree (id, moment) = object (members ((codes "id", text id) ∷ (codes "moment", count_tree moment) ∷ []))

-- a message with its new minimum
abbrev pub change_tree : ℕ × ℕ → Tree
change_tree (number, minimum) = list (trees (count_tree number ∷ count_tree minimum ∷ []))

-- the four values that a summary keeps of a quorum, under the names of their blobs
abbrev pub base_tree : Quorum → Tree
base_tree base = object (members (map (λ blob. (blob_word blob, blob_tree base blob)) quorum_blobs))

-- ---- the state

-- version 1 has no moments
abbrev pub moments_member : Version → State → List Pair
moments_member One s = []
moments_member Two s = (codes "heard", list_tree moment_tree s.heard) ∷ []

unfoldable pub state_members : Version → State → List Pair
state_members version s =
    (codes "acks", list_tree ack_tree s.scribe.acks)
    ∷ (codes "base", base_tree s.scribe.base)
    ∷ (codes "behind", list_tree message_tree s.scribe.behind)
    ∷ (codes "clients", list_tree client_tree (entries s.sequencer.rows))
    ∷ (codes "counted", count_tree s.counted)
    ∷ (codes "entered", count_tree s.entered)
    ∷ (moments_member version s
    ++ (codes "minima", list_tree change_tree s.scribe.minima)
    ∷ (codes "minimum", count_tree s.sequencer.minimum)
    ∷ (codes "pending", list_tree message_tree s.scribe.pending)
    ∷ (codes "sequence", count_tree s.sequencer.sequence)
    ∷ (codes "version", count_tree (version_number version))
    ∷ [])

abbrev pub state_tree : Version → State → Tree
state_tree version s = object (members (state_members version s))

-- the text in version 1, which is read and not printed
abbrev pub first_printed : State → List ℕ
first_printed s = printed (state_tree One s)

-- the text of a state
unfoldable pub state_printed : State → List ℕ
state_printed s = printed (state_tree Two s)
