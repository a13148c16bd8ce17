-- The four texts in which a summary keeps a quorum. Each value is the table of its members in byte order of their names.
use Rattle.std.specs.Prelude.{ℕ, List, [], ◌∷◌, map}
use Rattle.std.specs.FinMap.{entries}
use Rattle.std.specs.FinMap as table
use Rattle.fluid_json.specs.Tree.{Tree, text, list, object, trees, members}
use Rattle.fluid_json.specs.Printed as json
use Rattle.fluid_types.specs.Printed.{row, count_tree}
use Rattle.fluid_types.specs.Words.{blob_word, quorum_blobs}
use Rattle.fluid_types.specs.Quorum.{Quorum, quorum}
use Rattle.fluid_types.specs.declared.fault.Field.TheVariants as field
use Rattle.fluid_types.specs.declared.messages.Message.{Message}
use Rattle.fluid_types.specs.declared.quorum.Member.{Member}
use Rattle.fluid_types.specs.declared.quorum.Proposal.{Proposal}
use Rattle.fluid_types.specs.declared.quorum.Accepted.{Accepted}
use Rattle.fluid_types.specs.declared.quorum.QuorumBlob.{QuorumBlob}
use Rattle.fluid_types.specs.declared.quorum.QuorumBlob.TheVariants.{Attributes, Members, Proposals, Values}

abbrev pub attributes_tree : ℕ → ℕ → Tree
attributes_tree minimum number = object (members (row field.MinimumSequenceNumber (count_tree minimum) ∷ row field.SequenceNumber (count_tree number) ∷ []))

abbrev pub member_tree : Member → Tree
member_tree m = object (members (row field.ClientId (text m.id) ∷ row field.Detail m.detail ∷ row field.SequenceNumber (count_tree m.number) ∷ []))

abbrev pub proposal_tree : Proposal → Tree
proposal_tree p = object (members (row field.Key (text p.key) ∷ row field.SequenceNumber (count_tree p.number) ∷ row field.Value p.value ∷ []))

-- the value of a key
abbrev pub value_tree : List ℕ × Accepted → Tree
value_tree (key, accepted) =
    object
    (members
    (row field.ApprovalSequenceNumber (count_tree accepted.approval)
    ∷ row field.Key (text key)
    ∷ row field.SequenceNumber (count_tree accepted.number)
    ∷ row field.Value accepted.value
    ∷ []))

-- a list of what there is one tree of each
abbrev pub list_tree : {A : Type 0} → (A → Tree) → List A → Tree
list_tree tree items = list (trees (map tree items))

-- members stand in byte order of their ids, pending proposals in the order of their numbers, values in byte order of their keys
abbrev pub blob_tree : Quorum → QuorumBlob → Tree
blob_tree q Attributes = attributes_tree q.minimum q.number
blob_tree q Members = list_tree member_tree (table.values q.members)
blob_tree q Proposals = list_tree proposal_tree q.pending
blob_tree q Values = list_tree value_tree (entries q.values)

-- a blob's text
unfoldable pub blob_text : Quorum → QuorumBlob → List ℕ
blob_text q blob = json.printed (blob_tree q blob)

-- the names of the blobs, each with its text
unfoldable pub blobs_of : Quorum → List (List ℕ × List ℕ)
blobs_of q = map (λ blob. (blob_word blob, blob_text q blob)) quorum_blobs

-- those of the first n messages of an order
abbrev pub blobs : List Message → ℕ → List (List ℕ × List ℕ)
blobs order n = blobs_of (quorum order n)
