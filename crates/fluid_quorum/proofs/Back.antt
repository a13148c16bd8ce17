-- What is written of a quorum is read back.
use Rattle.std.proofs.Common.{◌≡◌, ℕ, ◌==◌, ◌≤◌, arith, Bool, true, false, if◌then◌else◌, T, List, [], ◌∷◌, map, Option, Some, Ok, le-leb, bytes_eq, IsUtf8, refl, sym, ap, subst, ◌∙◌}
use Rattle.std.specs.Prelude.{option_and_then}
use Rattle.std.specs.FinMap.{entries-from_sorted}
use Rattle.std.proofs.lemmas.Slice.Eq.{bytes_eq-Decides}
use Rattle.std.proofs.lemmas.Str.{is_utf8-from_IsUtf8}
use Rattle.fluid_table.specs.Table.{byte_order}
use Rattle.fluid_table.specs.Keyed.{pairs_of}
use Rattle.fluid_json.specs.Tree.{Tree, trees, IsCanonical, AreCanonical, depth, trees_depth}
use Rattle.fluid_json.specs.Printed.{printed}
use Rattle.fluid_json.specs.Spelled.{answer_stored}
use Rattle.fluid_json.proofs.ReadBack.{answers_itself}
use Rattle.fluid_types.specs.Names.{IsName}
use Rattle.fluid_types.specs.Texts.{name_of}
use Rattle.fluid_types.specs.Forms.{largest}
use Rattle.fluid_types.specs.declared.quorum.Member.{Member}
use Rattle.fluid_types.specs.declared.quorum.Proposal.{Proposal}
use Rattle.fluid_types.specs.declared.quorum.QuorumBlob.{QuorumBlob}
use Rattle.fluid_types.specs.declared.quorum.QuorumBlob.TheVariants as blob
use Rattle.fluid_types.specs.Quorum.{Quorum}
use Rattle.fluid_types.specs.Blobs.{attributes_tree, member_tree, proposal_tree, value_tree, list_tree, blob_text, blobs_of}
use Rattle.fluid_quorum.specs.declared.accepting.KeyValue.{KeyValue}
use Rattle.fluid_quorum.specs.Node.{node_of}
use Rattle.fluid_quorum.specs.Reading.{greatest_minimum, attributes_form, member_form, members_form, proposal_form, proposals_form, value_form, values_form, each, said_by, text_in, attributes_in, members_in, proposals_in, values_in, answer}
use Rattle.fluid_quorum.specs.Stored.{IsNumber, MembersKept, ProposalsKept, ValuesKept, of_parts, IsStored}
use Rattle.fluid_quorum.specs.Laws.{AreReadBack}
use Rattle.fluid_quorum.proofs.Sorted.{its_own}

-- ---- records

member_read : (last : ℕ) (m : Member) → IsName m.id → IsNumber last m.number → member_form last (member_tree m) ≡ Some m
unfolding name_of
member_read last m name number = rw (name, le-leb 1 m.number number.least, le-leb m.number last number.most) refl

proposal_read : (last : ℕ) (p : Proposal) → IsNumber last p.number → proposal_form last (proposal_tree p) ≡ Some p
unfolding name_of
proposal_read last p number = rw (le-leb 1 p.number number.least, le-leb p.number last number.most) refl

value_read : (last : ℕ) (v : KeyValue) → IsNumber last v.accepted.approval → IsNumber last v.accepted.number → value_form last (value_tree (v.key, v.accepted)) ≡ Some v
unfolding name_of
value_read last v approval number =
    rw (le-leb 1 v.accepted.approval approval.least, le-leb v.accepted.approval last approval.most, le-leb 1 v.accepted.number number.least, le-leb v.accepted.number last number.most) refl

attributes_read : (minimum last : ℕ) → minimum ≤ greatest_minimum last → last ≤ largest → attributes_form (attributes_tree minimum last) ≡ Some (minimum, last)
unfolding name_of
attributes_read minimum last a b = rw (le-leb 0 last (omega arith), le-leb last largest b, le-leb 0 minimum (omega arith), le-leb minimum (greatest_minimum last) a) refl

members_read : (last : ℕ) (ms : List Member) → MembersKept last ms → each (member_form last) (trees (map member_tree ms)) ≡ Some ms
members_read last [] h = refl
members_read last (m ∷ ms) h = rw (member_read last m h.0.0 h.0.1.0, members_read last ms h.1) refl

proposals_read : (last : ℕ) (ps : List Proposal) → ProposalsKept last ps → each (proposal_form last) (trees (map proposal_tree ps)) ≡ Some ps
proposals_read last [] h = refl
proposals_read last (p ∷ ps) h = rw (proposal_read last p h.0.0, proposals_read last ps h.1) refl

values_read : (last : ℕ) (vs : List KeyValue) → ValuesKept last vs → each (value_form last) (trees (map value_tree (pairs_of (λ v. v.key) (λ v. v.accepted) vs))) ≡ Some vs
values_read last [] h = refl
values_read last (v ∷ vs) h = rw (value_read last v h.0.0 h.0.1.0, values_read last vs h.1) refl

-- ---- depth and canonical form

members_fit : (last : ℕ) (ms : List Member) → last ≤ largest → MembersKept last ms → AreCanonical (trees (map member_tree ms)) × (trees_depth (trees (map member_tree ms)) ≤ 119)
unfolding name_of
members_fit last [] fits h = (tt, omega arith)
members_fit last (m ∷ ms) fits h =
    let rest = members_fit last ms fits h.1 in
    ((((refl, (refl, tt)), (tt, ((refl, tt), (h.0.1.1.canonical, (tt, (omega (arith, fits, h.0.1.0.most), tt)))))), rest.0), omega (arith, h.0.1.1.shallow, rest.1))

proposals_fit : (last : ℕ) (ps : List Proposal) → last ≤ largest → ProposalsKept last ps → AreCanonical (trees (map proposal_tree ps)) × (trees_depth (trees (map proposal_tree ps)) ≤ 119)
unfolding name_of
proposals_fit last [] fits h = (tt, omega arith)
proposals_fit last (p ∷ ps) fits h =
    let rest = proposals_fit last ps fits h.1 in
    ((((refl, (refl, tt)), (tt, ((refl, tt), (omega (arith, fits, h.0.0.most), (tt, (h.0.1.canonical, tt)))))), rest.0), omega (arith, h.0.1.shallow, rest.1))

values_fit : (last : ℕ) (vs : List KeyValue) → last ≤ largest → ValuesKept last vs
    → AreCanonical (trees (map value_tree (pairs_of (λ v. v.key) (λ v. v.accepted) vs))) × (trees_depth (trees (map value_tree (pairs_of (λ v. v.key) (λ v. v.accepted) vs))) ≤ 119)
unfolding name_of
values_fit last [] fits h = (tt, omega arith)
values_fit last (v ∷ vs) fits h =
    let rest = values_fit last vs fits h.1 in (
      (((refl, (refl, (refl, tt))), (omega (arith, fits, h.0.0.most), ((refl, (refl, tt)), (tt, ((refl, tt), (omega (arith, fits, h.0.1.0.most), (tt, (h.0.1.1.canonical, tt)))))))), rest.0),
      omega (arith, h.0.1.1.shallow, rest.1),
    )

least_fits : (none : Bool) (minimum : ℕ) → minimum ≤ (if none then 0 else largest) → minimum ≤ largest
least_fits true minimum h = omega (arith, h)
least_fits false minimum h = h

attributes_fit : (minimum last : ℕ) → minimum ≤ largest → last ≤ largest → IsCanonical (attributes_tree minimum last)
unfolding name_of
attributes_fit minimum last a b = ((refl, tt), (omega (arith, a), (tt, (omega (arith, b), tt))))

-- ---- texts

same_bytes : (s : List ℕ) → bytes_eq s s ≡ true
same_bytes s = (bytes_eq-Decides s s).1 refl

said : {A : Type 0} (form : Tree → Option A) (tree_of : A → Tree) (a : A) → form (tree_of a) ≡ Some a → IsCanonical (tree_of a) → depth (tree_of a) ≤ 120 → said_by form tree_of (printed (tree_of a)) ≡ Some a
unfolding said_by
said form tree_of a read canonical shallow =
    let spelled : answer_stored (printed (tree_of a)) ≡ Ok (tree_of a) = answers_itself 121 (tree_of a) canonical (omega (arith, shallow)) (omega (arith, shallow)) in
    rw (spelled, read, same_bytes (printed (tree_of a))) refl

found : (q : Quorum) (b : QuorumBlob) → IsUtf8 (blob_text q b) → text_in (node_of q) b ≡ Some (blob_text q b)
unfolding text_in node_of blobs_of
found q blob.Attributes utf8 = rw (is_utf8-from_IsUtf8 (blob_text q blob.Attributes) utf8) refl
found q blob.Members utf8 = rw (is_utf8-from_IsUtf8 (blob_text q blob.Members) utf8) refl
found q blob.Proposals utf8 = rw (is_utf8-from_IsUtf8 (blob_text q blob.Proposals) utf8) refl
found q blob.Values utf8 = rw (is_utf8-from_IsUtf8 (blob_text q blob.Values) utf8) refl

there : {A : Type 0} (q : Quorum) (b : QuorumBlob) (form : Tree → Option A) (tree_of : A → Tree) (a : A) → IsUtf8 (blob_text q b) → blob_text q b ≡ printed (tree_of a)
    → form (tree_of a) ≡ Some a → IsCanonical (tree_of a) → depth (tree_of a) ≤ 120 → option_and_then (λ s. said_by form tree_of s) (text_in (node_of q) b) ≡ Some a
there q b form tree_of a utf8 same read canonical shallow =
    ap (option_and_then (λ s. said_by form tree_of s)) (found q b utf8) ∙ ap (said_by form tree_of) same ∙ said form tree_of a read canonical shallow

module _ (minimum last : ℕ) (ms : List Member) (ps : List Proposal) (vs : List KeyValue) (stored : IsStored minimum last ms ps vs) where
  abbrev whole : Quorum
  whole = of_parts minimum last ms ps vs

  attributes_back : option_and_then (λ s. said_by attributes_form (λ a. attributes_tree a.0 a.1) s) (text_in (node_of whole) blob.Attributes) ≡ Some (minimum, last)
  unfolding blob_text
  attributes_back =
      there whole blob.Attributes attributes_form (λ a. attributes_tree a.0 a.1) (minimum, last) (stored.utf8 blob.Attributes) refl (attributes_read minimum last stored.minimum_fits stored.number_fits)
      (attributes_fit minimum last (least_fits (last == 0) minimum stored.minimum_fits) stored.number_fits) (omega arith)

  members_back : option_and_then (λ s. said_by (members_form last) (list_tree member_tree) s) (text_in (node_of whole) blob.Members) ≡ Some ms
  unfolding blob_text
  members_back =
      let same = its_own ms ∙ ap (map (λ (e : List ℕ × Member). e.1)) (sym (entries-from_sorted byte_order (pairs_of (λ m. m.id) (λ m. m) ms) (subst T (sym stored.ids) tt))) in
      let fit = members_fit last ms stored.number_fits stored.members in
      there whole blob.Members (members_form last) (list_tree member_tree) ms (stored.utf8 blob.Members) (ap (λ l. printed (list_tree member_tree l)) (sym same))
      (rw (members_read last ms stored.members, stored.ids) refl) fit.0 (omega (arith, fit.1))

  proposals_back : option_and_then (λ s. said_by (proposals_form last) (list_tree proposal_tree) s) (text_in (node_of whole) blob.Proposals) ≡ Some ps
  unfolding blob_text
  proposals_back =
      let fit = proposals_fit last ps stored.number_fits stored.proposals in
      there whole blob.Proposals (proposals_form last) (list_tree proposal_tree) ps (stored.utf8 blob.Proposals) refl
      (rw (proposals_read last ps stored.proposals, stored.numbers) refl) fit.0 (omega (arith, fit.1))

  values_back : option_and_then (λ s. said_by (values_form last) (λ us. list_tree value_tree (pairs_of (λ v. v.key) (λ v. v.accepted) us)) s) (text_in (node_of whole) blob.Values) ≡ Some vs
  unfolding blob_text
  values_back =
      let same = entries-from_sorted byte_order (pairs_of (λ v. v.key) (λ v. v.accepted) vs) (subst T (sym stored.keys) tt) in
      let fit = values_fit last vs stored.number_fits stored.values in
      there whole blob.Values (values_form last) (λ us. list_tree value_tree (pairs_of (λ v. v.key) (λ v. v.accepted) us)) vs (stored.utf8 blob.Values) (ap (λ l. printed (list_tree value_tree l)) same)
      (rw (values_read last vs stored.values, stored.keys) refl) fit.0 (omega (arith, fit.1))

pub read_back : AreReadBack
unfolding answer attributes_in members_in proposals_in values_in
read_back minimum last ms ps vs stored =
    rw (attributes_back minimum last ms ps vs stored, members_back minimum last ms ps vs stored, proposals_back minimum last ms ps vs stored, values_back minimum last ms ps vs stored) refl
