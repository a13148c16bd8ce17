-- The quorum of messages that are read back from their texts is read back from its blobs.
use Rattle.std.proofs.Common.{◌≡◌, ℕ, zero, suc, ◌≤◌, ◌==◌, ne_eqb, arith, true, false, List, [], ◌∷◌, length, map, filter_map, None, Ok, refl, sym, ap, subst, ◌∙◌}
use Rattle.std.specs.FinMap.{entries, entries_sorted, from_sorted, is_sorted}
use Rattle.fluid_table.specs.Table.{byte_order}
use Rattle.fluid_table.specs.Keyed.{pairs_of}
use Rattle.fluid_json.specs.Tree.{Tree, trees, IsCanonical, AreCanonical, depth, trees_depth}
use Rattle.fluid_types.specs.Forms.{largest}
use Rattle.fluid_types.specs.declared.messages.Message.{Message}
use Rattle.fluid_types.specs.declared.quorum.Member.{Member}
use Rattle.fluid_types.specs.declared.quorum.Proposal.{Proposal}
use Rattle.fluid_types.specs.declared.quorum.Accepted.{Accepted}
use Rattle.fluid_types.specs.Quorum.{Table, standing, members, proposals, pending, is_accepted, values, at_last, quorum_of}
use Rattle.fluid_types.proofs.Numbers.{last_number}
use Rattle.fluid_quorum.specs.declared.accepting.KeyValue.{KeyValue}
use Rattle.fluid_quorum.specs.Order.{AreFirst}
use Rattle.fluid_quorum.specs.Lists.{members_of, values_of}
use Rattle.fluid_quorum.specs.Node.{node_of, AreTexts}
use Rattle.fluid_quorum.specs.Reading.{greatest_minimum, answer}
use Rattle.fluid_quorum.specs.Stored.{IsStoredValue, MembersKept, ProposalsKept, ValuesKept, of_parts, IsStored}
use Rattle.std.specs.List.{All}
use Rattle.fluid_types.specs.Texts.{name_of}
use Rattle.fluid_types.specs.Blobs.{attributes_tree, member_tree, proposal_tree, value_tree, blob_tree}
use Rattle.fluid_types.specs.declared.quorum.QuorumBlob.{QuorumBlob}
use Rattle.fluid_types.specs.declared.quorum.QuorumBlob.TheVariants.{Attributes, Members, Proposals, Values}
use Rattle.fluid_quorum.specs.Laws as quorum
use Rattle.fluid_readback.specs.Quorums.{IsReadAsItself, QuorumsAreReadBack}
use Rattle.fluid_readback.proofs.Each.{Each, each-all, each-latest, of_entries, is_true}
use Rattle.fluid_readback.proofs.Said.{IsDeep, in_range}
use Rattle.fluid_readback.proofs.Parts.{IsAmong, among, last_below, IsMemberAt, members_kept, proposals_kept, IsProposalKept, pending_kept, IsValueAt, accepted_kept, AreFrom, pending_rising}

-- what is read may stand in a blob
deep_kept : (value : Tree) → IsDeep value → IsStoredValue value
deep_kept value is = record { canonical = is.canonical; shallow = omega (arith, is.shallow) }

-- ---- the parts as lists

abbrev member_list : List (List ℕ × Member) → List Member
member_list es = map (λ e. e.1) es

abbrev value_list : List (List ℕ × Accepted) → List KeyValue
value_list es = map (λ e. record { key = e.0; accepted = e.1 }) es

members_listed : (last : ℕ) (es : List (List ℕ × Member)) → Each (IsMemberAt last) es → MembersKept last (member_list es)
members_listed last [] h = tt
members_listed last (e ∷ es) h = ((h.0.name, (h.0.number, deep_kept e.1.detail h.0.detail)), members_listed last es h.1)

proposals_listed : (last : ℕ) (ps : List Proposal) → Each (IsProposalKept last) ps → ProposalsKept last ps
proposals_listed last [] h = tt
proposals_listed last (p ∷ ps) h = ((h.0.number, deep_kept p.value h.0.value), proposals_listed last ps h.1)

values_listed : (last : ℕ) (es : List (List ℕ × Accepted)) → Each (IsValueAt last) es → ValuesKept last (value_list es)
values_listed last [] h = tt
values_listed last (e ∷ es) h = ((h.0.approval, (h.0.number, deep_kept e.1.value h.0.value)), values_listed last es h.1)

-- the entries of these lists are those of the tables
member_pairs : (last : ℕ) (es : List (List ℕ × Member)) → Each (IsMemberAt last) es → pairs_of (λ m. m.id) (λ m. m) (member_list es) ≡ es
member_pairs last [] h = refl
member_pairs last (e ∷ es) h = rw (member_pairs last es h.1) (ap (λ k. (k, e.1) ∷ es) (sym h.0.key))

value_pairs : (es : List (List ℕ × Accepted)) → pairs_of (λ v. v.key) (λ v. v.accepted) (value_list es) ≡ es
value_pairs [] = refl
value_pairs (e ∷ es) = ap (λ l. e ∷ l) (value_pairs es)

in_order : {X : Type 0} (t : Table X) → is_sorted byte_order (entries t) ≡ true
in_order t = is_true (is_sorted byte_order (entries t)) (entries_sorted t)

-- ---- numbers

each_in_range : (ms : List Message) → Each IsReadAsItself ms → Each (λ m. m.number ≤ largest) ms × Each (λ m. m.minimum ≤ largest) ms
each_in_range [] h = (tt, tt)
each_in_range (m ∷ ms) h = let rest = each_in_range ms h.1 in let its = in_range m h.0 in ((its.number, rest.0), (its.minimum, rest.1))

at_least_one : (n : ℕ) → 1 ≤ n → greatest_minimum n ≡ largest
at_least_one zero h = absurd (omega (arith, h))
at_least_one (suc n) h = let none : (suc n == 0) ≡ false = ne_eqb (suc n) 0 (λ e. omega (arith, e)) in rw none refl

-- the minimum of the last message, and 0 where there is none
least_fits : (ms : List Message) → AreFirst ms → Each IsReadAsItself ms → at_last (λ m. m.minimum) ms ≤ greatest_minimum (at_last (λ m. m.number) ms)
least_fits [] order back = omega arith
least_fits (m ∷ ms) order back =
    let number = last_number (m ∷ ms) order in
    let least = last_below (λ m. m.minimum) largest None (m ∷ ms) (omega arith) (each_in_range (m ∷ ms) back).1 in
    subst (λ k. at_last (λ m. m.minimum) (m ∷ ms) ≤ k) (sym (ap greatest_minimum number ∙ at_least_one (length (m ∷ ms)) (omega arith))) least

-- ---- the quorum

module _ (ms : List Message) (order : AreFirst ms) (back : Each IsReadAsItself ms) where
  abbrev last : ℕ
  last = at_last (λ m. m.number) ms

  abbrev least : ℕ
  least = at_last (λ m. m.minimum) ms

  abbrev its_members : List Member
  its_members = member_list (entries (members ms))

  abbrev its_values : List KeyValue
  its_values = value_list (entries (values ms))

  each_among : Each (IsAmong last) ms
  each_among = among last 1 ms (omega arith) (omega (arith, last_number ms order)) order back

  each_member : Each (IsMemberAt last) (entries (members ms))
  unfolding members
  each_member = each-latest (IsMemberAt last) (standing ms) (members_kept last ms each_among)

  each_value : Each (IsValueAt last) (entries (values ms))
  unfolding values
  each_value = each-latest (IsValueAt last) (filter_map is_accepted (proposals ms)) (accepted_kept last (proposals ms) (proposals_kept last ms each_among))

  each_proposal : Each (IsProposalKept last) (pending ms)
  unfolding pending
  each_proposal = pending_kept last (proposals ms) (proposals_kept last ms each_among)

  rising : AreFrom 1 (pending ms)
  unfolding pending
  rising = pending_rising last 1 ms order each_among

  same_members : members_of its_members ≡ members ms
  same_members = ap from_sorted (member_pairs last (entries (members ms)) each_member) ∙ of_entries (members ms)

  same_values : values_of its_values ≡ values ms
  same_values = ap from_sorted (value_pairs (entries (values ms))) ∙ of_entries (values ms)

  same_quorum : of_parts least last its_members (pending ms) its_values ≡ quorum_of ms
  unfolding quorum_of
  same_quorum = λ i. record { number = last; minimum = least; members = same_members i; pending = pending ms; values = same_values i }

  stored : AreTexts (quorum_of ms) → IsStored least last its_members (pending ms) its_values
  stored utf8 = record {
    minimum_fits = least_fits ms order back;
    number_fits = last_below (λ m. m.number) largest None ms (omega arith) (each_in_range ms back).0;
    members = members_listed last (entries (members ms)) each_member;
    proposals = proposals_listed last (pending ms) each_proposal;
    values = values_listed last (entries (values ms)) each_value;
    ids = ap (is_sorted byte_order) (member_pairs last (entries (members ms)) each_member) ∙ in_order (members ms);
    numbers = rising.rising;
    keys = ap (is_sorted byte_order) (value_pairs (entries (values ms))) ∙ in_order (values ms);
    utf8 = subst AreTexts (sym same_quorum) utf8;
  }

  kept : quorum.AreReadBack → AreTexts (quorum_of ms) → answer (node_of (quorum_of ms)) ≡ Ok (quorum_of ms)
  kept law utf8 = subst (λ q. answer (node_of q) ≡ Ok q) same_quorum (law least last its_members (pending ms) its_values (stored utf8))

pub read_back : quorum.AreReadBack → QuorumsAreReadBack
read_back law ms order back utf8 = kept ms order (each-all IsReadAsItself ms back) law utf8

-- ---- the values of its blobs

members_fit : (last : ℕ) (es : List (List ℕ × Member)) → last ≤ largest → Each (IsMemberAt last) es → AreCanonical (trees (map member_tree (member_list es))) × (trees_depth (trees (map member_tree (member_list es))) ≤ 101)
unfolding name_of
members_fit last [] fits h = (tt, omega arith)
members_fit last (e ∷ es) fits h =
    let rest = members_fit last es fits h.1 in
    ((((refl, (refl, tt)), (tt, ((refl, tt), (h.0.detail.canonical, (tt, (omega (arith, fits, h.0.number.most), tt)))))), rest.0), omega (arith, h.0.detail.shallow, rest.1))

proposals_fit : (last : ℕ) (ps : List Proposal) → last ≤ largest → Each (IsProposalKept last) ps → AreCanonical (trees (map proposal_tree ps)) × (trees_depth (trees (map proposal_tree ps)) ≤ 101)
unfolding name_of
proposals_fit last [] fits h = (tt, omega arith)
proposals_fit last (p ∷ ps) fits h =
    let rest = proposals_fit last ps fits h.1 in
    ((((refl, (refl, tt)), (tt, ((refl, tt), (omega (arith, fits, h.0.number.most), (tt, (h.0.value.canonical, tt)))))), rest.0), omega (arith, h.0.value.shallow, rest.1))

values_fit : (last : ℕ) (es : List (List ℕ × Accepted)) → last ≤ largest → Each (IsValueAt last) es → AreCanonical (trees (map value_tree es)) × (trees_depth (trees (map value_tree es)) ≤ 101)
unfolding name_of
values_fit last [] fits h = (tt, omega arith)
values_fit last (e ∷ es) fits h =
    let rest = values_fit last es fits h.1 in (
      (((refl, (refl, (refl, tt))), (omega (arith, fits, h.0.approval.most), ((refl, (refl, tt)), (tt, ((refl, tt), (omega (arith, fits, h.0.number.most), (tt, (h.0.value.canonical, tt)))))))), rest.0),
      omega (arith, h.0.value.shallow, rest.1),
    )

attributes_fit : (minimum number : ℕ) → minimum ≤ largest → number ≤ largest → IsCanonical (attributes_tree minimum number)
unfolding name_of
attributes_fit minimum number a b = ((refl, tt), (omega (arith, a), (tt, (omega (arith, b), tt))))

-- it is in order and at most so deep
pub record IsBlobValue (t : Tree) : Type 0 where
  pub canonical : IsCanonical t
  pub shallow : depth t ≤ 102

pub blob_values : (ms : List Message) → AreFirst ms → All IsReadAsItself ms → (b : QuorumBlob) → IsBlobValue (blob_tree (quorum_of ms) b)
unfolding quorum_of
blob_values ms order back Attributes =
    let ranges = each_in_range ms (each-all IsReadAsItself ms back) in
    record {
      canonical = attributes_fit (at_last (λ m. m.minimum) ms) (at_last (λ m. m.number) ms) (last_below (λ m. m.minimum) largest None ms (omega arith) ranges.1) (last_below (λ m. m.number) largest None ms (omega arith) ranges.0);
      shallow = omega arith;
    }
blob_values ms order back Members =
    let each = each-all IsReadAsItself ms back in
    let fit = members_fit (at_last (λ m. m.number) ms) (entries (members ms)) (last_below (λ m. m.number) largest None ms (omega arith) (each_in_range ms each).0) (each_member ms order each) in
    record { canonical = fit.0; shallow = omega (arith, fit.1) }
blob_values ms order back Proposals =
    let each = each-all IsReadAsItself ms back in
    let fit = proposals_fit (at_last (λ m. m.number) ms) (pending ms) (last_below (λ m. m.number) largest None ms (omega arith) (each_in_range ms each).0) (each_proposal ms order each) in
    record { canonical = fit.0; shallow = omega (arith, fit.1) }
blob_values ms order back Values =
    let each = each-all IsReadAsItself ms back in
    let fit = values_fit (at_last (λ m. m.number) ms) (entries (values ms)) (last_below (λ m. m.number) largest None ms (omega arith) (each_in_range ms each).0) (each_value ms order each) in
    record { canonical = fit.0; shallow = omega (arith, fit.1) }
