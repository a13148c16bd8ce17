-- The texts of the quorum that an order's messages make are UTF-8.
use Rattle.std.proofs.Common.{◌≡◌, ℕ, Bool, true, false, cond, List, [], ◌∷◌, map, filter_map, Option, Some, None, Result, Ok, Err, refl, subst}
use Rattle.std.specs.Prelude.{IsUtf8, All, option_to_list}
use Rattle.std.specs.List.{list_any}
use Rattle.std.specs.Result.{result_ok}
use Rattle.std.specs.FinMap.{entries}
use Rattle.fluid_json.specs.Tree.{Tree, trees, find, as_text}
use Rattle.fluid_json.specs.Spelled.{answer}
use Rattle.fluid_json.specs.declared.fault.JsonFault.{JsonFault}
use Rattle.fluid_texts.specs.Laws.{TextsAreRead, TextsArePrinted, TextsAreWritable}
use Rattle.fluid_texts.specs.Texts.{IsText, AreTexts}
use Rattle.fluid_types.specs.Blobs.{attributes_tree, member_tree, proposal_tree, value_tree, blob_tree, blob_text}
use Rattle.fluid_types.specs.Contents.{body}
use Rattle.fluid_types.specs.Names.{is_name}
use Rattle.fluid_types.specs.Order.{AreFirst}
use Rattle.fluid_types.specs.Quorum.{data_of, as_name, joining, member_of, proposing, proposal_of, leaves, unless_left, standing, members, approval, proposals, is_pending, pending, is_accepted, values, at_last, quorum_of}
use Rattle.fluid_types.specs.Texts.{name_of}
use Rattle.fluid_types.specs.declared.fault.Field.TheVariants as field
use Rattle.fluid_types.specs.declared.messages.Kind.{Kind}
use Rattle.fluid_types.specs.declared.messages.Kind.TheVariants as kind
use Rattle.fluid_types.specs.declared.messages.Message.{Message}
use Rattle.fluid_types.specs.declared.quorum.Accepted.{Accepted}
use Rattle.fluid_types.specs.declared.quorum.Member.{Member}
use Rattle.fluid_types.specs.declared.quorum.Proposal.{Proposal}
use Rattle.fluid_types.specs.declared.quorum.QuorumBlob.{QuorumBlob}
use Rattle.fluid_types.specs.declared.quorum.QuorumBlob.TheVariants as word
use Rattle.fluid_types.specs.Quorum.{of_join, of_propose}
use Rattle.fluid_quorum.specs.Node as node
use Rattle.fluid_readback.specs.Quorums.{IsReadAsItself}
use Rattle.fluid_readback.proofs.Each.{Each, each-append, each-latest, then_some}
use Rattle.fluid_readback.proofs.Quorums.{blob_values}
use Rattle.fluid_loader.proofs.Honest.{plain_utf8}
use Rattle.fluid_loader.proofs.Spoken.{IsSpoken, found, own_text, body_text}

ok_of : (r : Result Tree JsonFault) (t : Tree) → result_ok r ≡ Some t → r ≡ Ok t
ok_of (Ok u) t h = cc
ok_of (Err fault) t h = cc

of_join-some : {A : Type 0} (k : Kind) (o : Option A) (a : A) → of_join k o ≡ Some a → o ≡ Some a
of_join-some kind.Join o a is = is
of_join-some kind.Op o a is = cc
of_join-some kind.Noop o a is = cc
of_join-some kind.Reject o a is = cc
of_join-some kind.Summarize o a is = cc
of_join-some kind.Propose o a is = cc
of_join-some kind.Leave o a is = cc
of_join-some kind.SummaryAck o a is = cc
of_join-some kind.SummaryNack o a is = cc

of_propose-some : {A : Type 0} (k : Kind) (o : Option A) (a : A) → of_propose k o ≡ Some a → o ≡ Some a
of_propose-some kind.Propose o a is = is
of_propose-some kind.Op o a is = cc
of_propose-some kind.Noop o a is = cc
of_propose-some kind.Reject o a is = cc
of_propose-some kind.Summarize o a is = cc
of_propose-some kind.Join o a is = cc
of_propose-some kind.Leave o a is = cc
of_propose-some kind.SummaryAck o a is = cc
of_propose-some kind.SummaryNack o a is = cc

-- ---- members

record IsTextMember (j : Member) : Type 0 where
  pub id : IsUtf8 j.id
  pub detail : IsText j.detail

name_is : (s id : List ℕ) (b : Bool) → cond b (Some s) None ≡ Some id → s ≡ id
name_is s id true h = cc
name_is s id false h = cc

named_text : (t : Tree) (id : List ℕ) → IsText t → as_name t ≡ Some id → IsUtf8 id
named_text t id h is =
    let s = then_some (λ s. cond (is_name s) (Some s) None) (as_text t) id is in
    subst IsUtf8 (name_is s.0 id (is_name s.0) s.2) (own_text t s.0 h s.1)

joined : (number : ℕ) (t : Tree) (j : Member) → IsText t → joining number t ≡ Some j → IsTextMember j
joined number t j h is =
    let client = then_some _ (find (name_of field.ClientId) t) j is in
    let id = then_some _ (as_name client.0) j client.2 in
    let detail = then_some (λ d. Some (record { id = id.0; detail = d; number = number })) (find (name_of field.Detail) t) j id.2 in
    let made : ◌≡◌ {A = Member} (record { id = id.0; detail = detail.0; number = number }) j = cc in
    subst IsTextMember made
    (record { id = named_text client.0 id.0 (found (name_of field.ClientId) t client.0 h client.1) id.1; detail = found (name_of field.Detail) t detail.0 h detail.1 })

-- ---- proposals

record IsTextProposal (p : Proposal) : Type 0 where
  pub key : IsUtf8 p.key
  pub value : IsText p.value

proposed : (number : ℕ) (t : Tree) (p : Proposal) → IsText t → proposing number t ≡ Some p → IsTextProposal p
proposed number t p h is =
    let named = then_some _ (find (name_of field.Key) t) p is in
    let key = then_some _ (as_text named.0) p named.2 in
    let value = then_some (λ v. Some (record { number = number; key = key.0; value = v })) (find (name_of field.Value) t) p key.2 in
    let made : ◌≡◌ {A = Proposal} (record { number = number; key = key.0; value = value.0 }) p = cc in
    subst IsTextProposal made
    (record { key = own_text named.0 key.0 (found (name_of field.Key) t named.0 h named.1) key.1; value = found (name_of field.Value) t value.0 h value.1 })

abbrev IsTextPair : List ℕ × Member → Type 0
IsTextPair e = IsTextMember e.1

abbrev IsTextOutcome : Proposal × Option ℕ → Type 0
IsTextOutcome o = IsTextProposal o.0

abbrev IsTextValue : List ℕ × Accepted → Type 0
IsTextValue e = IsUtf8 e.0 × IsText e.1.value

pending_text : (qs : List (Proposal × Option ℕ)) → Each IsTextOutcome qs → Each IsTextProposal (filter_map is_pending qs)
pending_text [] h = tt
pending_text ((p, Some a) ∷ qs) h = pending_text qs h.1
pending_text ((p, None) ∷ qs) h = (h.0, pending_text qs h.1)

accepted_text : (qs : List (Proposal × Option ℕ)) → Each IsTextOutcome qs → Each IsTextValue (filter_map is_accepted qs)
accepted_text [] h = tt
accepted_text ((p, None) ∷ qs) h = accepted_text qs h.1
accepted_text ((p, Some a) ∷ qs) h = ((h.0.key, h.0.value), accepted_text qs h.1)

-- ---- their trees

members_listed : (es : List (List ℕ × Member)) → Each IsTextPair es → AreTexts (trees (map member_tree (map (λ e. e.1) es)))
unfolding name_of
members_listed [] h = tt
members_listed (e ∷ es) h =
    ((plain_utf8 (name_of field.ClientId) refl, (h.0.id, (plain_utf8 (name_of field.Detail) refl, (h.0.detail, (plain_utf8 (name_of field.SequenceNumber) refl, (tt, tt)))))), members_listed es h.1)

proposals_listed : (ps : List Proposal) → Each IsTextProposal ps → AreTexts (trees (map proposal_tree ps))
unfolding name_of
proposals_listed [] h = tt
proposals_listed (p ∷ ps) h =
    ((plain_utf8 (name_of field.Key) refl, (h.0.key, (plain_utf8 (name_of field.SequenceNumber) refl, (tt, (plain_utf8 (name_of field.Value) refl, (h.0.value, tt)))))), proposals_listed ps h.1)

values_listed : (es : List (List ℕ × Accepted)) → Each IsTextValue es → AreTexts (trees (map value_tree es))
unfolding name_of
values_listed [] h = tt
values_listed (e ∷ es) h = (
  (plain_utf8 (name_of field.ApprovalSequenceNumber) refl, (tt, (plain_utf8 (name_of field.Key) refl, (h.0.0, (plain_utf8 (name_of field.SequenceNumber) refl, (tt, (plain_utf8 (name_of field.Value) refl, (h.0.1, tt)))))))),
  values_listed es h.1,
)

attributes_text : (minimum number : ℕ) → IsText (attributes_tree minimum number)
unfolding name_of
attributes_text minimum number = (plain_utf8 (name_of field.MinimumSequenceNumber) refl, (tt, (plain_utf8 (name_of field.SequenceNumber) refl, (tt, tt))))

-- ---- messages

module _ (reads : TextsAreRead) where
  data_text : (m : Message) (t : Tree) → IsSpoken m → data_of m ≡ Some t → IsText t
  data_text m t h is = let s = then_some (λ s. result_ok (answer s)) m.system t is in reads s.0 t (h.system s.0 s.1) (ok_of (answer s.0) t s.2)

  member_text : (m : Message) (j : Member) → IsSpoken m → member_of m ≡ Some j → IsTextMember j
  unfolding member_of
  member_text m j h is =
      let said = then_some (joining m.number) (data_of m) j (of_join-some m.kind _ j is) in
      joined m.number said.0 j (data_text m said.0 h said.1) said.2

  proposal_text : (m : Message) (p : Proposal) → IsSpoken m → proposal_of m ≡ Some p → IsTextProposal p
  unfolding proposal_of
  proposal_text m p h is = proposed m.number (body m.contents) p (body_text reads m.contents h.contents) (of_propose-some m.kind _ p is)

  joins_text : (m : Message) (behind : List Message) (o : Option Member) → IsSpoken m → member_of m ≡ o → Each IsTextPair (unless_left behind o)
  joins_text m behind None h is = tt
  joins_text m behind (Some j) h is = of (list_any (leaves j.id) behind)
    where
      of : (b : Bool) → Each IsTextPair (cond b [] ((j.id, j) ∷ []))
      of true = tt
      of false = (member_text m j h is, tt)

  standing_text : (ms : List Message) → Each IsSpoken ms → Each IsTextPair (standing ms)
  unfolding standing
  standing_text [] h = tt
  standing_text (m ∷ ms) h = each-append IsTextPair (unless_left ms (member_of m)) (standing ms) (joins_text m ms (member_of m) h.0 refl) (standing_text ms h.1)

  makes_text : (m : Message) (behind : List Message) (o : Option Proposal) → IsSpoken m → proposal_of m ≡ o → Each IsTextOutcome (map (λ p. (p, approval p.number (m ∷ behind))) (option_to_list o))
  makes_text m behind None h is = tt
  makes_text m behind (Some p) h is = (proposal_text m p h is, tt)

  proposals_text : (ms : List Message) → Each IsSpoken ms → Each IsTextOutcome (proposals ms)
  unfolding proposals
  proposals_text [] h = tt
  proposals_text (m ∷ ms) h =
      each-append IsTextOutcome (map (λ p. (p, approval p.number (m ∷ ms))) (option_to_list (proposal_of m))) (proposals ms) (makes_text m ms (proposal_of m) h.0 refl) (proposals_text ms h.1)

  blob_text_tree : (ms : List Message) → Each IsSpoken ms → (b : QuorumBlob) → IsText (blob_tree (quorum_of ms) b)
  unfolding quorum_of members pending values
  blob_text_tree ms h word.Attributes = attributes_text (at_last (λ m. m.minimum) ms) (at_last (λ m. m.number) ms)
  blob_text_tree ms h word.Members = members_listed (entries (members ms)) (each-latest IsTextPair (standing ms) (standing_text ms h))
  blob_text_tree ms h word.Proposals = proposals_listed (pending ms) (pending_text (proposals ms) (proposals_text ms h))
  blob_text_tree ms h word.Values = values_listed (entries (values ms)) (each-latest IsTextValue (filter_map is_accepted (proposals ms)) (accepted_text (proposals ms) (proposals_text ms h)))

  -- the blobs of the quorum are UTF-8
  pub quorum_text : TextsArePrinted → TextsAreWritable → (ms : List Message) → AreFirst ms → All IsReadAsItself ms → Each IsSpoken ms → node.AreTexts (quorum_of ms)
  unfolding blob_text
  quorum_text prints writes ms first back h = λ b. prints (blob_tree (quorum_of ms) b) (writes (blob_tree (quorum_of ms) b) (blob_values ms first back b).canonical (blob_text_tree ms h b))
