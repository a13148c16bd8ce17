-- Worked examples of the scribe: small orders, and what is answered.
use Rattle.std.specs.Prelude.{◌≡◌, ℕ, zero, suc, ◌+◌, ◌-◌, pos, negsuc, true, false, List, [], ◌∷◌, ◌++◌, Option, Some, None, option_map, map, codes}
use Rattle.std.specs.FinMap.{keys}
use Rattle.fluid_json.specs.Tree.{Tree, null, text, object, members}
use Rattle.fluid_json.specs.Printed as json
use Rattle.fluid_types.specs.declared.messages.Kind.{Kind}
use Rattle.fluid_types.specs.declared.messages.Kind.TheVariants.{Join, Summarize, SummaryAck, SummaryNack}
use Rattle.fluid_types.specs.declared.messages.Message.{Message}
use Rattle.fluid_types.specs.declared.quorum.QuorumBlob.TheVariants as blob
use Rattle.fluid_types.specs.Quorum.{quorum}
use Rattle.fluid_types.specs.Blobs.{blobs, blob_text}
use Rattle.fluid_types.specs.QuorumExamples.{message, op, system_message}
use Rattle.fluid_rules.specs.Scribe.{pending, acks, number_of, version, answer, ack_contents, refusal_contents, reported}
use Rattle.fluid_rules.specs.declared.answers.SummaryRule.{SummaryRule}
use Rattle.fluid_rules.specs.declared.answers.SummaryRule.TheVariants.{Malformed, StaleHead, OldReference, Missing}
use Rattle.fluid_rules.specs.declared.answers.Answer.{Answer}
use Rattle.fluid_rules.specs.declared.answers.Answer.TheVariants.{Dropped, Ack, Refused}

-- the id of the empty tree, as bytes and as a text, and that of the empty blob
abbrev pub empty_tree : List ℕ
empty_tree = 75 ∷ 130 ∷ 93 ∷ 198 ∷ 66 ∷ 203 ∷ 110 ∷ 185 ∷ 160 ∷ 96 ∷ 229 ∷ 75 ∷ 248 ∷ 214 ∷ 146 ∷ 136 ∷ 251 ∷ 238 ∷ 73 ∷ 4 ∷ []

abbrev pub empty_tree_text : List ℕ
empty_tree_text = codes "4b825dc642cb6eb9a060e54bf8d69288fbee4904"

abbrev pub empty_blob : List ℕ
empty_blob = 230 ∷ 157 ∷ 226 ∷ 155 ∷ 178 ∷ 209 ∷ 214 ∷ 67 ∷ 75 ∷ 139 ∷ 41 ∷ 174 ∷ 119 ∷ 90 ∷ 216 ∷ 194 ∷ 228 ∷ 140 ∷ 83 ∷ 145 ∷ []

abbrev pub empty_blob_text : List ℕ
empty_blob_text = codes "e69de29bb2d1d6434b8b29ae775ad8c2e48c5391"

abbrev pub asking : List ℕ → List ℕ → Tree
asking handle head = object (members ((codes "handle", text handle) ∷ (codes "head", text head) ∷ []))

abbrev pub summarize : ℕ → ℕ → Tree → Message
summarize number reference contents = record (message Summarize number 20 contents) { reference = pos reference }

-- a message that answers
abbrev pub reply : Kind → ℕ → Tree → Message
reply kind number contents = record (message kind number 20 contents) { client = None; client_number = negsuc 0; reference = negsuc 0 }

-- so many ops from a number on: each has the minimum two below its number
abbrev pub ops : ℕ → ℕ → List Message
ops first zero = []
ops first (suc more) = op first (first - 2) ∷ ops (first + 1) more

-- a member joins at 23, and a summarize with the reference 20 stands at 25
abbrev pub before_it : List Message
before_it = ops 1 22 ++ (system_message Join 23 21 (codes "{\"clientId\":\"B\",\"detail\":null}") ∷ op 24 22 ∷ [])

abbrev pub twenty_five : List Message
twenty_five = before_it ++ summarize 25 20 (asking empty_tree_text []) ∷ []

-- its version has the order's state at 20: the minimum of message 20, and no member of number 23
pub record VersionAtReference : Type 0 where
  pub pending_is : option_map (λ m. m.number) (pending twenty_five) ≡ Some 25
  pub answered : answer twenty_five 25 true ≡ Ack (version empty_tree (blobs twenty_five 20))
  pub attributes : blob_text (quorum twenty_five 20) blob.Attributes ≡ codes "{\"minimumSequenceNumber\":18,\"sequenceNumber\":20}"
  pub nobody_at_20 : keys (quorum twenty_five 20).members ≡ []
  pub one_at_25 : keys (quorum twenty_five 25).members ≡ codes "B" ∷ []

-- its tree isn't stored; a report on an op; a second summarize waits behind it
pub record OnThePending : Type 0 where
  pub missing : answer twenty_five 25 false ≡ Refused Missing
  pub on_an_op : answer twenty_five 3 true ≡ Dropped
  pub on_a_later_one : answer (twenty_five ++ summarize 26 21 (asking empty_tree_text []) ∷ []) 26 true ≡ Dropped
  pub nothing_pending : answer before_it 25 true ≡ Dropped

-- it is acknowledged at 26
abbrev pub twenty_six : List Message
twenty_six = twenty_five ++ reply SummaryAck 26 (ack_contents 25 empty_blob) ∷ []

pub record AfterTheAck : Type 0 where
  pub nothing_pending : pending twenty_six ≡ None
  pub acknowledged : acks twenty_six ≡ record { handle = empty_blob; number = 20 } ∷ []
  pub its_number : number_of twenty_six empty_blob ≡ Some 20
  pub no_number : number_of twenty_six empty_tree ≡ None
  pub again : answer twenty_six 25 true ≡ Dropped

abbrev pub asked_at_27 : ℕ → Tree → List Message
asked_at_27 reference contents = twenty_six ++ summarize 27 reference contents ∷ []

-- then a summarize with an empty head is refused, whatever its reference, and the same report again is dropped
abbrev pub stale : List Message
stale = asked_at_27 25 (asking empty_tree_text [])

-- before the first acknowledgement any other head than the empty one is refused
pub record StaleHeads : Type 0 where
  pub nothing_to_build_on : answer (before_it ++ summarize 25 20 (asking empty_tree_text empty_blob_text) ∷ []) 25 true ≡ Refused StaleHead
  pub refused : answer stale 27 true ≡ Refused StaleHead
  pub whatever_is_found : answer stale 27 false ≡ Refused StaleHead
  pub old_as_well : answer (asked_at_27 19 (asking empty_tree_text [])) 27 true ≡ Refused StaleHead
  pub again : answer (stale ++ reply SummaryNack 28 (refusal_contents 27 StaleHead) ∷ []) 27 true ≡ Dropped

-- contents that are a text which spells such an object ask for the same
abbrev pub asked_as_text : List Message
asked_as_text = before_it ++ summarize 25 20 (text (codes "{\"handle\":\"4b825dc642cb6eb9a060e54bf8d69288fbee4904\",\"head\":\"\"}")) ∷ []

abbrev pub AskedAsText : Type 0
AskedAsText = answer asked_as_text 25 true ≡ Ack (version empty_tree (blobs asked_as_text 20))

-- the message that a report gets, with its contents as a text
abbrev pub said : ℕ → Answer → Option (Kind × List ℕ)
said summary answer = option_map (λ message. (message.0, json.printed message.1)) (reported summary answer)

abbrev pub refused : SummaryRule → Option (Kind × List ℕ)
refused rule = said 27 (Refused rule)

pub record SaidToReports : Type 0 where
  pub dropped : said 25 Dropped ≡ None
  pub acknowledged :
      said 25 (Ack empty_blob)
      ≡ Some (SummaryAck, codes "{\"handle\":\"e69de29bb2d1d6434b8b29ae775ad8c2e48c5391\",\"summaryProposal\":{\"summarySequenceNumber\":25}}")
  pub malformed :
      refused Malformed
      ≡ Some (SummaryNack, codes "{\"code\":400,\"message\":\"summarize contents are malformed\",\"summaryProposal\":{\"summarySequenceNumber\":27}}")
  pub stale_head :
      refused StaleHead
      ≡ Some (SummaryNack, codes "{\"code\":400,\"message\":\"head is not the last acknowledged summary\",\"summaryProposal\":{\"summarySequenceNumber\":27}}")
  pub old_reference :
      refused OldReference
      ≡ Some (SummaryNack, codes "{\"code\":400,\"message\":\"reference is below the last acknowledged summary\",\"summaryProposal\":{\"summarySequenceNumber\":27}}")
  pub missing :
      refused Missing
      ≡ Some (SummaryNack, codes "{\"code\":400,\"message\":\"summary tree is not stored\",\"summaryProposal\":{\"summarySequenceNumber\":27}}")

-- contents null, an id in upper case, an id of 39 digits, and no head
pub record MalformedContents : Type 0 where
  pub nothing : answer (asked_at_27 25 null) 27 true ≡ Refused Malformed
  pub not_found_either : answer (asked_at_27 25 null) 27 false ≡ Refused Malformed
  pub upper : answer (asked_at_27 25 (asking (codes "4B825DC642CB6EB9A060E54BF8D69288FBEE4904") empty_blob_text)) 27 true ≡ Refused Malformed
  pub short : answer (asked_at_27 25 (asking (codes "4b825dc642cb6eb9a060e54bf8d69288fbee490") empty_blob_text)) 27 true ≡ Refused Malformed
  pub no_head : answer (asked_at_27 25 (object (members ((codes "handle", text empty_tree_text) ∷ [])))) 27 true ≡ Refused Malformed

-- with the right head, a reference below the one that was acknowledged is refused, and the same reference isn't
pub record OldReferences : Type 0 where
  pub below : answer (asked_at_27 19 (asking empty_tree_text empty_blob_text)) 27 true ≡ Refused OldReference
  pub below_and_missing : answer (asked_at_27 19 (asking empty_tree_text empty_blob_text)) 27 false ≡ Refused OldReference
  pub equal :
      answer (asked_at_27 20 (asking empty_tree_text empty_blob_text)) 27 true
      ≡ Ack (version empty_tree (blobs (asked_at_27 20 (asking empty_tree_text empty_blob_text)) 20))

-- a summarize at 27 with the reference 22 is acknowledged at 28 with another handle, and one with the reference 23 is at 30 with that handle once more
abbrev pub twenty_eight : List Message
twenty_eight = asked_at_27 22 (asking empty_tree_text empty_blob_text) ++ reply SummaryAck 28 (ack_contents 27 empty_tree) ∷ []

abbrev pub thirty : List Message
thirty = twenty_eight ++ (summarize 29 23 (asking empty_tree_text empty_tree_text) ∷ reply SummaryAck 30 (ack_contents 29 empty_tree) ∷ [])

-- then the head is the second handle and no longer the first, and a handle's number is that of its last acknowledgement
pub record LastAcks : Type 0 where
  pub first_head : answer (twenty_eight ++ summarize 29 23 (asking empty_tree_text empty_blob_text) ∷ []) 29 true ≡ Refused StaleHead
  pub last_head : answer (twenty_eight ++ summarize 29 23 (asking empty_tree_text empty_tree_text) ∷ []) 29 false ≡ Refused Missing
  pub between : answer (twenty_eight ++ summarize 29 21 (asking empty_tree_text empty_tree_text) ∷ []) 29 true ≡ Refused OldReference
  pub numbers : map (λ ack. ack.number) (acks thirty) ≡ 20 ∷ 22 ∷ 23 ∷ []
  pub last_number : number_of thirty empty_tree ≡ Some 23
  pub first_number : number_of thirty empty_blob ≡ Some 20
