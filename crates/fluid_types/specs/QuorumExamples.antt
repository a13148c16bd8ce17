-- Worked examples of the quorum: small orders, and what is read out of them.
use Rattle.std.specs.Prelude.{◌≡◌, ℕ, pos, negsuc, List, [], ◌∷◌, ◌++◌, None, Some, codes, map}
use Rattle.std.specs.FinMap.{get, keys}
use Rattle.std.specs.FinMap as table
use Rattle.fluid_json.specs.Tree.{Tree, null, whole, text, object, members}
use Rattle.fluid_types.specs.declared.messages.Kind.{Kind}
use Rattle.fluid_types.specs.declared.messages.Kind.TheVariants.{Op, Propose, Reject, Join, Leave}
use Rattle.fluid_types.specs.declared.messages.Message.{Message}
use Rattle.fluid_types.specs.declared.quorum.Proposal.{Proposal}
use Rattle.fluid_types.specs.declared.quorum.QuorumBlob.TheVariants as blob
use Rattle.fluid_types.specs.Quorum.{quorum}
use Rattle.fluid_types.specs.Blobs.{blob_text}

-- a message of client A
abbrev pub message : Kind → ℕ → ℕ → Tree → Message
message kind number minimum contents = record {
  client = Some (codes "A");
  client_number = pos number;
  reference = pos minimum;
  number = number;
  minimum = minimum;
  kind = kind;
  contents = contents;
  system = None;
  metadata = None;
  moment = 5;
}

abbrev pub op : ℕ → ℕ → Message
op number minimum = message Op number minimum null

abbrev pub proposed : List ℕ → List ℕ → Tree
proposed key value = object (members ((codes "key", text key) ∷ (codes "value", text value) ∷ []))

-- a message that the service itself made
abbrev pub system_message : Kind → ℕ → ℕ → List ℕ → Message
system_message kind number minimum said = record {
  client = None;
  client_number = negsuc 0;
  reference = negsuc 0;
  number = number;
  minimum = minimum;
  kind = kind;
  contents = null;
  system = Some said;
  metadata = None;
  moment = 5;
}

-- eleven messages, of which the last has the minimum 10
abbrev pub eleven : List Message
eleven = op 1 0 ∷ op 2 0 ∷ op 3 1 ∷ op 4 1 ∷ op 5 2 ∷ op 6 3 ∷ op 7 5 ∷ op 8 7 ∷ op 9 8 ∷ op 10 9 ∷ op 11 10 ∷ []

-- then a value is proposed for `code` while the minimum is 10, another one for `mode` with the minimum 11, and then the minimum becomes 12
abbrev pub fourteen : List Message
fourteen = eleven ++ (message Propose 12 10 (proposed (codes "code") (codes "v2")) ∷ message Propose 13 11 (proposed (codes "mode") (codes "dark")) ∷ op 14 12 ∷ [])

-- after 13 both are pending, and no key has a value
pub record AfterThirteen : Type 0 where
  pub pending : map (λ p. p.number) (quorum fourteen 13).pending ≡ 12 ∷ 13 ∷ []
  pub value : get (quorum fourteen 13).values (codes "code") ≡ None

-- after 14 the first is accepted with the approval number 14, and the second is still pending
pub record AfterFourteen : Type 0 where
  pub value : get (quorum fourteen 14).values (codes "code") ≡ Some (record { number = 12; approval = 14; value = text (codes "v2") })
  pub pending : map (λ p. p.number) (quorum fourteen 14).pending ≡ 13 ∷ []

-- a propose whose own minimum is its number is accepted by itself
abbrev pub AcceptedByItself : Type 0
AcceptedByItself =
    get (quorum (eleven ++ message Propose 12 12 (proposed (codes "code") (codes "v2")) ∷ []) 12).values (codes "code")
    ≡ Some (record { number = 12; approval = 12; value = text (codes "v2") })

-- two proposals of one key that one message approves: the later one is the key's value
abbrev pub TwoOfOneKey : Type 0
TwoOfOneKey =
    get (quorum (eleven ++ (message Propose 12 10 (proposed (codes "code") (codes "v2")) ∷ message Propose 13 11 (proposed (codes "code") (codes "v3")) ∷ op 14 13 ∷ [])) 14).values (codes "code")
    ≡ Some (record { number = 13; approval = 14; value = text (codes "v3") })

-- a propose whose contents are a text that spells the object counts as well
abbrev pub ProposedAsText : Type 0
ProposedAsText =
    map (λ p. p.key) (quorum (message Propose 1 0 (text (codes "{\"key\":\"code\",\"value\":\"v2\"}")) ∷ []) 1).pending ≡ codes "code" ∷ []

-- what one message of these contents leaves pending
abbrev pub pending_behind : Kind → Tree → List Proposal
pending_behind kind contents = (quorum (message kind 1 0 contents ∷ []) 1).pending

-- a propose changes nothing where its contents are 5, where its key is no text, or where a member is missing; nor does another kind
pub record AreNoProposals : Type 0 where
  pub five : pending_behind Propose (whole (pos 5)) ≡ []
  pub key_is_no_text : pending_behind Propose (object (members ((codes "key", null) ∷ (codes "value", null) ∷ []))) ≡ []
  pub no_value : pending_behind Propose (object (members ((codes "key", text (codes "code")) ∷ []))) ≡ []
  pub no_key : pending_behind Propose (object (members ((codes "value", null) ∷ []))) ≡ []
  pub reject : pending_behind Reject (proposed (codes "code") (codes "v2")) ≡ []
  pub propose : map (λ p. p.key) (pending_behind Propose (proposed (codes "code") (codes "v2"))) ≡ codes "code" ∷ []

-- A and B join, A leaves and joins again, and B leaves
abbrev pub joins_and_leaves : List Message
joins_and_leaves =
    system_message Join 1 0 (codes "{\"clientId\":\"A\",\"detail\":1}")
    ∷ system_message Join 2 0 (codes "{\"clientId\":\"B\",\"detail\":null}")
    ∷ system_message Leave 3 1 (codes "\"A\"")
    ∷ system_message Join 4 1 (codes "{\"clientId\":\"A\",\"detail\":2}")
    ∷ system_message Leave 5 3 (codes "\"B\"")
    ∷ []

-- A joins twice without a leave between
abbrev pub joins_twice : List Message
joins_twice =
    system_message Join 1 0 (codes "{\"clientId\":\"A\",\"detail\":1}")
    ∷ system_message Join 2 0 (codes "{\"clientId\":\"A\",\"detail\":2}")
    ∷ []

pub record WhoIsIn : Type 0 where
  pub both : keys (quorum joins_and_leaves 2).members ≡ codes "A" ∷ codes "B" ∷ []
  pub one : keys (quorum joins_and_leaves 3).members ≡ codes "B" ∷ []
  pub again : map (λ m. m.number) (table.values (quorum joins_and_leaves 4).members) ≡ 4 ∷ 2 ∷ []
  pub left : keys (quorum joins_and_leaves 5).members ≡ codes "A" ∷ []
  pub latest : map (λ m. m.number) (table.values (quorum joins_twice 2).members) ≡ 2 ∷ []

-- the blobs after 14 of the fourteen messages
pub record BlobTexts : Type 0 where
  pub attributes : blob_text (quorum fourteen 14) blob.Attributes ≡ codes "{\"minimumSequenceNumber\":12,\"sequenceNumber\":14}"
  pub members : blob_text (quorum fourteen 14) blob.Members ≡ codes "[]"
  pub proposals : blob_text (quorum fourteen 14) blob.Proposals ≡ codes "[{\"key\":\"mode\",\"sequenceNumber\":13,\"value\":\"dark\"}]"
  pub values : blob_text (quorum fourteen 14) blob.Values ≡ codes "[{\"approvalSequenceNumber\":14,\"key\":\"code\",\"sequenceNumber\":12,\"value\":\"v2\"}]"

-- the members after four messages of joins and leaves, as their blob
abbrev pub MembersText : Type 0
MembersText =
    blob_text (quorum joins_and_leaves 4) blob.Members
    ≡ codes "[{\"clientId\":\"A\",\"detail\":2,\"sequenceNumber\":4},{\"clientId\":\"B\",\"detail\":null,\"sequenceNumber\":2}]"
