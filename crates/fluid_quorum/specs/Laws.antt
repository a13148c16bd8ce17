-- What holds of the definitions.
use Rattle.std.specs.Prelude.{◌≡◌, ℕ, List, [], ◌∷◌, ◌++◌, Some, Ok}
use Rattle.fluid_types.specs.declared.messages.Message.{Message}
use Rattle.fluid_tree.specs.Summary.{Summary}
use Rattle.fluid_types.specs.declared.quorum.QuorumBlob.{QuorumBlob}
use Rattle.fluid_types.specs.Blobs.{blob_text}
use Rattle.fluid_quorum.specs.Node.{node_of}
use Rattle.fluid_quorum.specs.Stored.{of_parts, IsStored}
use Rattle.fluid_quorum.specs.declared.accepting.KeyValue.{KeyValue}
use Rattle.fluid_types.specs.declared.quorum.Member.{Member}
use Rattle.fluid_types.specs.declared.quorum.Proposal.{Proposal}
use Rattle.fluid_quorum.specs.Reading.{text_in, attributes_in, answer}
use Rattle.fluid_types.specs.Quorum.{Quorum, quorum_of}
use Rattle.fluid_quorum.specs.Order.{AreFirst}
use Rattle.fluid_quorum.specs.After.{after}

-- one more message of an order
abbrev pub GoesOn : Type 0
GoesOn = (ms : List Message) (m : Message) → AreFirst ms → quorum_of (ms ++ m ∷ []) ≡ after (quorum_of ms) m

-- a tree that is read as a quorum has the four texts of this quorum, byte for byte
abbrev pub IsOnlyBlobs : Type 0
IsOnlyBlobs = (t : Summary) (q : Quorum) → answer t ≡ Ok q → (b : QuorumBlob) → text_in t b ≡ Some (blob_text q b)

-- a tree that is read as a quorum has attributes that say the numbers of this quorum
abbrev pub AreAttributes : Type 0
AreAttributes = (t : Summary) (q : Quorum) → answer t ≡ Ok q → attributes_in t ≡ Some (q.minimum, q.number)

-- what is written of a quorum is read back as the quorum
abbrev pub AreReadBack : Type 0
AreReadBack = (minimum last : ℕ) (ms : List Member) (ps : List Proposal) (vs : List KeyValue) → IsStored minimum last ms ps vs →
    answer (node_of (of_parts minimum last ms ps vs)) ≡ Ok (of_parts minimum last ms ps vs)
