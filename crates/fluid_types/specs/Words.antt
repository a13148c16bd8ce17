-- The words of the protocol's texts.
use Rattle.std.specs.Prelude.{ℕ, List, [], ◌∷◌, codes}
use Rattle.fluid_types.specs.declared.words.RawKind.{RawKind}
use Rattle.fluid_types.specs.declared.words.RawKind.TheVariants as raw
use Rattle.fluid_types.specs.declared.entries.Offered.{Offered}
use Rattle.fluid_types.specs.declared.entries.Offered.TheVariants as offered
use Rattle.fluid_types.specs.declared.messages.Kind.{Kind}
use Rattle.fluid_types.specs.declared.messages.Kind.TheVariants as kind
use Rattle.fluid_types.specs.declared.quorum.QuorumBlob.{QuorumBlob}
use Rattle.fluid_types.specs.declared.quorum.QuorumBlob.TheVariants as blob

-- the kinds of raw entries
abbrev pub raw_word : RawKind → List ℕ
raw_word raw.Join = codes "join"
raw_word raw.Leave = codes "leave"
raw_word raw.Submit = codes "submit"
raw_word raw.Report = codes "report"

abbrev pub raw_kinds : List RawKind
raw_kinds = raw.Join ∷ raw.Leave ∷ raw.Submit ∷ raw.Report ∷ []

-- the kinds of submissions
abbrev pub offered_word : Offered → List ℕ
offered_word offered.Op = codes "op"
offered_word offered.Noop = codes "noop"
offered_word offered.Propose = codes "propose"
offered_word offered.Reject = codes "reject"
offered_word offered.Summarize = codes "summarize"

abbrev pub offered_kinds : List Offered
offered_kinds = offered.Op ∷ offered.Noop ∷ offered.Propose ∷ offered.Reject ∷ offered.Summarize ∷ []

-- the kinds of messages
abbrev pub kind_word : Kind → List ℕ
kind_word kind.Op = codes "op"
kind_word kind.Noop = codes "noop"
kind_word kind.Propose = codes "propose"
kind_word kind.Reject = codes "reject"
kind_word kind.Summarize = codes "summarize"
kind_word kind.Join = codes "join"
kind_word kind.Leave = codes "leave"
kind_word kind.SummaryAck = codes "summaryAck"
kind_word kind.SummaryNack = codes "summaryNack"

abbrev pub kinds : List Kind
kinds = kind.Op ∷ kind.Noop ∷ kind.Propose ∷ kind.Reject ∷ kind.Summarize ∷ kind.Join ∷ kind.Leave ∷ kind.SummaryAck ∷ kind.SummaryNack ∷ []

-- the scopes
abbrev pub read_word : List ℕ
read_word = codes "doc:read"

abbrev pub write_word : List ℕ
write_word = codes "doc:write"

abbrev pub summary_word : List ℕ
summary_word = codes "summary:write"

-- the blobs in which a summary keeps a quorum
abbrev pub blob_word : QuorumBlob → List ℕ
blob_word blob.Attributes = codes "attributes"
blob_word blob.Members = codes "quorumMembers"
blob_word blob.Proposals = codes "quorumProposals"
blob_word blob.Values = codes "quorumValues"

abbrev pub quorum_blobs : List QuorumBlob
quorum_blobs = blob.Attributes ∷ blob.Members ∷ blob.Proposals ∷ blob.Values ∷ []
