-- What is read of the blobs of an honest summary.
use Rattle.std.proofs.Common.{◌≡◌, ◌⊎◌, inl, inr, ℕ, Bool, true, false, cond, List, [], ◌∷◌, map, Some, None, option_and_then, Result, Ok, bytes_eq, refl, sym, ap, subst, ◌∙◌}
use Rattle.std.specs.Str.{IsUtf8, is_utf8}
use Rattle.std.proofs.lemmas.Slice.Eq.{bytes_eq-Decides}
use Rattle.std.proofs.lemmas.Str.{IsUtf8-from_is_utf8}
use Rattle.fluid_table.specs.Keyed.{pairs_of}
use Rattle.fluid_tree.specs.Laws.{IsReadBack}
use Rattle.fluid_tree.specs.Object.{in_order}
use Rattle.fluid_tree.specs.Summary.{Summary, blob, tree, Children, children, names, as_blob}
use Rattle.fluid_tree.specs.declared.object.ObjectEntry.{ObjectEntry}
use Rattle.fluid_types.specs.Blobs.{blob_text, blobs_of, attributes_tree, member_tree, proposal_tree, value_tree, list_tree}
use Rattle.fluid_types.specs.Quorum.{Quorum}
use Rattle.fluid_types.specs.Words.{blob_word, quorum_blobs}
use Rattle.fluid_types.specs.declared.fault.BlobFault.{BlobFault}
use Rattle.fluid_types.specs.declared.quorum.QuorumBlob.{QuorumBlob}
use Rattle.fluid_types.specs.declared.quorum.QuorumBlob.TheVariants as word
use Rattle.fluid_rules.specs.Scribe.{protocol}
use Rattle.fluid_quorum.specs.Lists.{members_of, values_of}
use Rattle.fluid_quorum.specs.Laws.{IsOnlyBlobs}
use Rattle.fluid_quorum.specs.Node.{node_of, AreTexts}
use Rattle.fluid_quorum.specs.Reading.{find_child, as_utf8, text_in, said_by, attributes_form, members_form, proposals_form, values_form, attributes_in, members_in, proposals_in, values_in, or_bad, answer}
use Rattle.fluid_readback.proofs.Each.{then_some}
use Rattle.fluid_store.specs.Held.{Held}
use Rattle.fluid_store.specs.Standing.{Stands, AllStand}
use Rattle.fluid_store.proofs.Reread.{AllUtf8, AreFit}
use Rattle.fluid_store.proofs.Sized.{Each}
use Rattle.fluid_store.proofs.Whole.{each_in_order}
use Rattle.fluid_loader.specs.Version.{no_node, node_within}
use Rattle.fluid_loader.proofs.Honest.{plain_utf8, named_nodes, blob_read, tree_read}

pub same_word : (a b : QuorumBlob) → blob_word a ≡ blob_word b → a ≡ b
same_word word.Attributes word.Attributes h = refl
same_word word.Attributes word.Members h = cc
same_word word.Attributes word.Proposals h = cc
same_word word.Attributes word.Values h = cc
same_word word.Members word.Attributes h = cc
same_word word.Members word.Members h = refl
same_word word.Members word.Proposals h = cc
same_word word.Members word.Values h = cc
same_word word.Proposals word.Attributes h = cc
same_word word.Proposals word.Members h = cc
same_word word.Proposals word.Proposals h = refl
same_word word.Proposals word.Values h = cc
same_word word.Values word.Attributes h = cc
same_word word.Values word.Members h = cc
same_word word.Values word.Proposals h = cc
same_word word.Values word.Values h = refl

-- the answer is that of the four texts
pub answer_by : (t s : Summary) → ((b : QuorumBlob) → text_in t b ≡ text_in s b) → answer t ≡ answer s
unfolding answer attributes_in members_in proposals_in values_in
answer_by t s e =
    λ i.
    or_bad (option_and_then (λ x. said_by attributes_form (λ a. attributes_tree a.0 a.1) x) (e word.Attributes i)) word.Attributes (λ a.
    or_bad (option_and_then (λ x. said_by (members_form a.1) (list_tree member_tree) x) (e word.Members i)) word.Members (λ ms.
    or_bad (option_and_then (λ x. said_by (proposals_form a.1) (list_tree proposal_tree) x) (e word.Proposals i)) word.Proposals (λ ps.
    or_bad (option_and_then (λ x. said_by (values_form a.1) (λ vs. list_tree value_tree (pairs_of (λ v. v.key) (λ v. v.accepted) vs)) x) (e word.Values i)) word.Values (λ vs.
    Ok (record { number = a.1; minimum = a.0; members = members_of ms; pending = ps; values = values_of vs })))))

no_blobs : (q : Quorum) → answer no_node ≡ Ok q → ⊥
unfolding answer attributes_in text_in
no_blobs q h = cc

module _ (back : IsReadBack) (held : Held) (quorum : Quorum) where
  -- an entry under whose id the blob of its name stands
  abbrev pub IsBlobOf : ObjectEntry → Type 0
  IsBlobOf x = (b : QuorumBlob) × ((x.name ≡ blob_word b) × ((x.tree ≡ false) × Stands held x.id (blob (blob_text quorum b))))

  abbrev pub nodes_of : List QuorumBlob → Children
  nodes_of bs = children (map (λ (b : List ℕ × List ℕ). (b.0, blob b.1)) (map (λ b. (blob_word b, blob_text quorum b)) bs))

  pub entries_of : (bs : List QuorumBlob) (es : List ObjectEntry) → AllStand held es (nodes_of bs) → Each IsBlobOf es
  entries_of [] [] stand = tt
  entries_of [] (e ∷ es) stand = absurd stand
  entries_of (b ∷ bs) [] stand = absurd stand
  entries_of (b ∷ bs) (e ∷ es) stand = ((b, (stand.0, (stand.1.0, stand.1.1.1.0))), entries_of bs es stand.1.1.1.1)

  pub protocol_is : protocol (blobs_of quorum) ≡ tree (nodes_of quorum_blobs)
  unfolding blobs_of
  protocol_is = refl

  found_in : (name : List ℕ) (es : List ObjectEntry) (s : Summary) → Each IsBlobOf es → find_child name (children (named_nodes back held 1 es)) ≡ Some s
      → (x : ObjectEntry) × (IsBlobOf x × ((x.name ≡ name) × (node_within held 1 x ≡ s)))
  found_in name [] s each h = cc
  found_in name (x ∷ es) s each h = by_name (found_in name es s each.1) (bytes_eq x.name name) refl h
    where
      by_name : (find_child name (children (named_nodes back held 1 es)) ≡ Some s → (y : ObjectEntry) × (IsBlobOf y × ((y.name ≡ name) × (node_within held 1 y ≡ s)))) → (b : Bool) → bytes_eq x.name name ≡ b
          → cond b (Some (node_within held 1 x)) (find_child name (children (named_nodes back held 1 es))) ≡ Some s → (y : ObjectEntry) × (IsBlobOf y × ((y.name ≡ name) × (node_within held 1 y ≡ s)))
      by_name later true own k = (x, (each.0, ((bytes_eq-Decides x.name name).0 own, let same : node_within held 1 x ≡ s = cc in same)))
      by_name later false own k = later k

  utf8_by : (b : Bool) (content s : List ℕ) → is_utf8 content ≡ b → cond b (Some content) None ≡ Some s → (content ≡ s) × IsUtf8 s
  utf8_by true content s own h = let same : content ≡ s = cc in (same, subst IsUtf8 same (IsUtf8-from_is_utf8 content own))
  utf8_by false content s own h = cc

  -- the text of a blob that is read is the one that stands
  text_is : (es : List ObjectEntry) (b : QuorumBlob) (s : List ℕ) → Each IsBlobOf es → text_in (tree (children (named_nodes back held 1 es))) b ≡ Some s → (s ≡ blob_text quorum b) × IsUtf8 s
  unfolding text_in
  text_is es b s each h =
      let node = then_some _ (find_child (blob_word b) (children (named_nodes back held 1 es))) s h in
      let content = then_some as_utf8 (as_blob node.0) s node.2 in
      let said = utf8_by (is_utf8 content.0) content.0 s refl content.2 in
      let x = found_in (blob_word b) es node.0 each node.1 in
      let own = x.1.0 in
      let same : own.0 ≡ b = same_word own.0 b (sym own.1.0 ∙ x.1.1.0) in
      by_node node.0 content.0 x.0 own.0 same said x.1.1.1 content.1 (blob_read back held 1 x.0 (blob_text quorum own.0) own.1.1.0 own.1.1.1)
    where
      by_node : (node : Summary) (content : List ℕ) (x : ObjectEntry) (o : QuorumBlob) → o ≡ b → (content ≡ s) × IsUtf8 s → node_within held 1 x ≡ node → as_blob node ≡ Some content
          → (node_within held 1 x ≡ no_node) ⊎ (node_within held 1 x ≡ blob (blob_text quorum o)) → (s ≡ blob_text quorum b) × IsUtf8 s
      by_node node content x o same said is blob_is (inl none) = let no : None ≡ Some content = ap as_blob (sym none ∙ is) ∙ blob_is in cc
      by_node node content x o same said is blob_is (inr one) =
          let its : Some (blob_text quorum o) ≡ Some content = ap as_blob (sym one ∙ is) ∙ blob_is in
          let text : blob_text quorum o ≡ content = cc in
          (sym said.0 ∙ sym text ∙ ap (blob_text quorum) same, said.1)

  pub blob_names : AllUtf8 (names (nodes_of quorum_blobs))
  blob_names = (plain_utf8 (blob_word word.Attributes) refl, (plain_utf8 (blob_word word.Members) refl, (plain_utf8 (blob_word word.Proposals) refl, (plain_utf8 (blob_word word.Values) refl, tt))))

  same_quorum : (q p : Quorum) → ◌≡◌ {A = Result Quorum BlobFault} (Ok q) (Ok p) → q ≡ p
  same_quorum q p h = cc

  -- the quorum that is read where the blobs of this one stand is this one
  pub protocol_read : IsOnlyBlobs → (AreTexts quorum → answer (node_of quorum) ≡ Ok quorum) → (f : ObjectEntry) (q : Quorum) → f.tree ≡ true → Stands held f.id (protocol (blobs_of quorum))
      → answer (node_within held 2 f) ≡ Ok q → q ≡ quorum
  protocol_read only whole f q kind stands h = by_tree (tree_read back held 1 f (nodes_of quorum_blobs) blob_names kind (subst (Stands held f.id) protocol_is stands))
    where
      by_tree : (node_within held 2 f ≡ no_node) ⊎ ((es : List ObjectEntry) × ((AllStand held es (nodes_of quorum_blobs) × AreFit es) × (node_within held 2 f ≡ tree (children (named_nodes back held 1 (in_order es))))))
          → q ≡ quorum
      by_tree (inl none) = absurd (no_blobs q (ap answer (sym none) ∙ h))
      by_tree (inr t) =
          let sorted = in_order t.0 in
          let p = tree (children (named_nodes back held 1 sorted)) in
          let each = each_in_order IsBlobOf [] t.0 tt (entries_of quorum_blobs t.0 t.1.0.0) in
          let said : answer p ≡ Ok q = ap answer (sym t.1.1) ∙ h in
          let texts : (b : QuorumBlob) → (blob_text q b ≡ blob_text quorum b) × IsUtf8 (blob_text q b) = λ b. text_is sorted b (blob_text q b) each (only p q said b) in
          let own = whole (λ b. subst IsUtf8 (texts b).0 (texts b).1) in
          let same : answer p ≡ answer (node_of quorum) = answer_by p (node_of quorum) (λ b. only p q said b ∙ ap Some (texts b).0 ∙ sym (only (node_of quorum) quorum own b)) in
          same_quorum q quorum (sym said ∙ same ∙ own)
