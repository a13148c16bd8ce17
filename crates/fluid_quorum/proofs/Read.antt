-- What is read of blobs is what is written of them.
use Rattle.std.proofs.Common.{◌≡◌, ℕ, Bool, true, false, cond, T, List, map, Option, Some, None, Result, Ok, bytes_eq, refl, sym, ap, subst, ◌∙◌}
use Rattle.std.specs.Prelude.{option_and_then, unwrap_or}
use Rattle.std.specs.Result.{result_ok, result_unwrap_or}
use Rattle.std.specs.FinMap.{entries-from_sorted, is_sorted}
use Rattle.std.proofs.lemmas.Slice.Eq.{bytes_eq-Decides}
use Rattle.fluid_table.specs.Table.{byte_order}
use Rattle.fluid_table.specs.Keyed.{pairs_of}
use Rattle.fluid_json.specs.Tree.{Tree, Trees, as_trees}
use Rattle.fluid_json.specs.Printed.{printed}
use Rattle.fluid_json.specs.Spelled.{answer_stored}
use Rattle.fluid_tree.specs.Summary.{Summary}
use Rattle.fluid_types.specs.declared.fault.BlobFault.{BlobFault}
use Rattle.fluid_types.specs.declared.quorum.QuorumBlob.{QuorumBlob}
use Rattle.fluid_types.specs.declared.quorum.QuorumBlob.TheVariants as blob
use Rattle.fluid_types.specs.declared.quorum.Member.{Member}
use Rattle.fluid_types.specs.declared.quorum.Proposal.{Proposal}
use Rattle.fluid_types.specs.Quorum.{Quorum}
use Rattle.fluid_types.specs.Blobs.{blob_text, attributes_tree, member_tree, proposal_tree, value_tree, list_tree}
use Rattle.fluid_quorum.specs.declared.accepting.KeyValue.{KeyValue}
use Rattle.fluid_quorum.specs.Lists.{members_of, values_of}
use Rattle.fluid_quorum.specs.Reading.{text_in, said_by, attributes_form, member_form, members_form, proposals_form, value_form, values_form, each, attributes_in, members_in, proposals_in, values_in, or_bad, answer}
use Rattle.fluid_quorum.specs.Laws.{IsOnlyBlobs, AreAttributes}
use Rattle.fluid_quorum.proofs.Sorted.{its_own}

same_if : {A : Type 0} (b : Bool) (P : Type 0) (a c : A) → (b ≡ true → P) → cond b (Some a) None ≡ Some c → P × (a ≡ c)
same_if true P a c h is = (h refl, ap (λ o. unwrap_or o a) is)
same_if false P a c h is = cc

-- a text that says something is the printed one of it
module _ {A : Type 0} (form : Tree → Option A) (tree_of : A → Tree) (s : List ℕ) where
  abbrev Says : A → Type 0
  Says a = (s ≡ printed (tree_of a)) × ((t : Tree) × (form t ≡ Some a))

  formed : (t : Tree) (o : Option A) (a : A) → form t ≡ o → option_and_then (λ b. cond (bytes_eq (printed (tree_of b)) s) (Some b) None) o ≡ Some a → Says a
  formed t None a read is = cc
  formed t (Some b) a read is =
      let facts = same_if (bytes_eq (printed (tree_of b)) s) (printed (tree_of b) ≡ s) b a (bytes_eq-Decides (printed (tree_of b)) s).0 is in
      (sym facts.0 ∙ ap (λ c. printed (tree_of c)) facts.1, (t, read ∙ ap Some facts.1))

  spelled : (o : Option Tree) (a : A) → option_and_then (λ t. option_and_then (λ b. cond (bytes_eq (printed (tree_of b)) s) (Some b) None) (form t)) o ≡ Some a → Says a
  spelled None a is = cc
  spelled (Some t) a is = formed t (form t) a refl is

  says : (a : A) → said_by form tree_of s ≡ Some a → Says a
  unfolding said_by
  says a is = spelled (result_ok (answer_stored s)) a is

module _ {A : Type 0} (form : Tree → Option A) (tree_of : A → Tree) where
  abbrev Holds : Option (List ℕ) → A → Type 0
  Holds o a = (o ≡ Some (printed (tree_of a))) × ((t : Tree) × (form t ≡ Some a))

  in_blob : (o : Option (List ℕ)) (a : A) → option_and_then (λ s. said_by form tree_of s) o ≡ Some a → Holds o a
  in_blob None a is = cc
  in_blob (Some s) a is = let facts = says form tree_of s a is in (ap Some facts.0, facts.1)

-- ---- lists that are read stand in order

last_test : {A : Type 0} (b : Bool) (a c : A) → cond b (Some a) None ≡ Some c → (b ≡ true) × (a ≡ c)
last_test b a c is = same_if b (b ≡ true) a c (λ h. h) is

members_ordered : (last : ℕ) (o : Option Trees) (ms : List Member)
    → option_and_then (λ ts. option_and_then (λ ns. cond (is_sorted byte_order (pairs_of (λ m. m.id) (λ m. m) ns)) (Some ns) None) (each (member_form last) ts)) o ≡ Some ms
    → is_sorted byte_order (pairs_of (λ m. m.id) (λ m. m) ms) ≡ true
members_ordered last None ms is = cc
members_ordered last (Some ts) ms is = read (each (member_form last) ts) is
  where
    read : (o : Option (List Member)) → option_and_then (λ ns. cond (is_sorted byte_order (pairs_of (λ m. m.id) (λ m. m) ns)) (Some ns) None) o ≡ Some ms
        → is_sorted byte_order (pairs_of (λ m. m.id) (λ m. m) ms) ≡ true
    read None found = cc
    read (Some ns) found =
        let facts = last_test (is_sorted byte_order (pairs_of (λ m. m.id) (λ m. m) ns)) ns ms found in
        subst (λ l. is_sorted byte_order (pairs_of (λ m. m.id) (λ m. m) l) ≡ true) facts.1 facts.0

values_ordered : (last : ℕ) (o : Option Trees) (vs : List KeyValue)
    → option_and_then (λ ts. option_and_then (λ ns. cond (is_sorted byte_order (pairs_of (λ v. v.key) (λ v. v.accepted) ns)) (Some ns) None) (each (value_form last) ts)) o ≡ Some vs
    → is_sorted byte_order (pairs_of (λ v. v.key) (λ v. v.accepted) vs) ≡ true
values_ordered last None vs is = cc
values_ordered last (Some ts) vs is = read (each (value_form last) ts) is
  where
    read : (o : Option (List KeyValue)) → option_and_then (λ ns. cond (is_sorted byte_order (pairs_of (λ v. v.key) (λ v. v.accepted) ns)) (Some ns) None) o ≡ Some vs
        → is_sorted byte_order (pairs_of (λ v. v.key) (λ v. v.accepted) vs) ≡ true
    read None found = cc
    read (Some ns) found =
        let facts = last_test (is_sorted byte_order (pairs_of (λ v. v.key) (λ v. v.accepted) ns)) ns vs found in
        subst (λ l. is_sorted byte_order (pairs_of (λ v. v.key) (λ v. v.accepted) l) ≡ true) facts.1 facts.0

-- ---- the whole answer

there : {A : Type 0} (o : Option A) (b : QuorumBlob) (next : A → Result Quorum BlobFault) (q : Quorum) → or_bad o b next ≡ Ok q → (a : A) × ((o ≡ Some a) × (next a ≡ Ok q))
there None b next q is = cc
there (Some a) b next q is = (a, (refl, is))

own : (q r : Quorum) → ◌≡◌ {A = Result Quorum BlobFault} (Ok q) (Ok r) → q ≡ r
own q r is = ap (λ (o : Result Quorum BlobFault). result_unwrap_or o q) is

by_blob : (t : Summary) (a : ℕ × ℕ) (ms : List Member) (ps : List Proposal) (vs : List KeyValue)
    → text_in t blob.Attributes ≡ Some (printed (attributes_tree a.0 a.1))
    → text_in t blob.Members ≡ Some (printed (list_tree member_tree ms))
    → text_in t blob.Proposals ≡ Some (printed (list_tree proposal_tree ps))
    → text_in t blob.Values ≡ Some (printed (list_tree value_tree (pairs_of (λ v. v.key) (λ v. v.accepted) vs)))
    → is_sorted byte_order (pairs_of (λ m. m.id) (λ m. m) ms) ≡ true → is_sorted byte_order (pairs_of (λ v. v.key) (λ v. v.accepted) vs) ≡ true
    → (b : QuorumBlob) → text_in t b ≡ Some (blob_text (record { number = a.1; minimum = a.0; members = members_of ms; pending = ps; values = values_of vs }) b)
unfolding blob_text
by_blob t a ms ps vs attributes members proposals values in_order keys blob.Attributes = attributes
by_blob t a ms ps vs attributes members proposals values in_order keys blob.Members =
    members
    ∙ ap (λ l. Some (printed (list_tree member_tree l)))
    (its_own ms ∙ ap (map (λ (e : List ℕ × Member). e.1)) (sym (entries-from_sorted byte_order (pairs_of (λ m. m.id) (λ m. m) ms) (subst T (sym in_order) tt))))
by_blob t a ms ps vs attributes members proposals values in_order keys blob.Proposals = proposals
by_blob t a ms ps vs attributes members proposals values in_order keys blob.Values =
    values ∙ ap (λ l. Some (printed (list_tree value_tree l))) (sym (entries-from_sorted byte_order (pairs_of (λ v. v.key) (λ v. v.accepted) vs) (subst T (sym keys) tt)))

pub only_blobs : IsOnlyBlobs
unfolding answer attributes_in members_in proposals_in values_in blob_text
only_blobs t q is =
    let one = there (attributes_in t) blob.Attributes _ q is in
    let two = there (members_in one.0.1 t) blob.Members _ q one.1.1 in
    let three = there (proposals_in one.0.1 t) blob.Proposals _ q two.1.1 in
    let four = there (values_in one.0.1 t) blob.Values _ q three.1.1 in
    let made = own _ q four.1.1 in
    let attributes = in_blob attributes_form (λ a. attributes_tree a.0 a.1) (text_in t blob.Attributes) one.0 one.1.0 in
    let members = in_blob (members_form one.0.1) (list_tree member_tree) (text_in t blob.Members) two.0 two.1.0 in
    let proposals = in_blob (proposals_form one.0.1) (list_tree proposal_tree) (text_in t blob.Proposals) three.0 three.1.0 in
    let values = in_blob (values_form one.0.1) (λ vs. list_tree value_tree (pairs_of (λ v. v.key) (λ v. v.accepted) vs)) (text_in t blob.Values) four.0 four.1.0 in
    subst (λ r. (b : QuorumBlob) → text_in t b ≡ Some (blob_text r b)) made (λ b. by_blob t one.0 two.0 three.0 four.0 attributes.0 members.0 proposals.0 values.0
    (members_ordered one.0.1 (as_trees members.1.0) two.0 members.1.1) (values_ordered one.0.1 (as_trees values.1.0) four.0 values.1.1) b)

pub attributes_said : AreAttributes
unfolding answer
attributes_said t q is =
    let one = there (attributes_in t) blob.Attributes _ q is in
    let two = there (members_in one.0.1 t) blob.Members _ q one.1.1 in
    let three = there (proposals_in one.0.1 t) blob.Proposals _ q two.1.1 in
    let four = there (values_in one.0.1 t) blob.Values _ q three.1.1 in
    one.1.0 ∙ ap (λ (r : Quorum). Some (r.minimum, r.number)) (own _ q four.1.1)
