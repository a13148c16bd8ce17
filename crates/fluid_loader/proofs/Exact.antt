-- An honest summary is read, where its objects are short enough and its contents are texts.
use Rattle.std.proofs.Common.{◌≡◌, ◌⊎◌, inl, inr, ℕ, suc, ◌≤◌, ◌^◌, Bool, true, false, cond, List, [], ◌∷◌, map, Some, None, option_and_then, Ok, bytes_eq, refl, sym, ap, subst, ◌∙◌, arith}
use Rattle.std.specs.Result.{result_ok}
use Rattle.std.specs.Str.{IsUtf8}
use Rattle.std.specs.FinMap.{entries, get, get-entries}
use Rattle.std.proofs.lemmas.Bool.{false≢true}
use Rattle.std.proofs.lemmas.Slice.Eq.{bytes_eq-Decides}
use Rattle.std.proofs.lemmas.Str.{is_utf8-from_IsUtf8}
use Rattle.fluid_json.specs.Tree.{Tree as Json}
use Rattle.fluid_table.specs.Table.{Values}
use Rattle.fluid_tree.specs.Laws.{IsReadBack}
use Rattle.fluid_tree.specs.Object.{object_bytes, tree_bytes, in_order}
use Rattle.fluid_tree.specs.Reading.{object_read}
use Rattle.fluid_tree.specs.Summary.{blob, tree, Children, no_children, child, children, as_blob, is_tree}
use Rattle.fluid_tree.specs.declared.object.Object.{Object}
use Rattle.fluid_tree.specs.declared.object.Object.TheVariants.{Blob, Tree}
use Rattle.fluid_tree.specs.declared.object.ObjectEntry.{ObjectEntry}
use Rattle.fluid_types.specs.Blobs.{blob_text, blobs_of}
use Rattle.fluid_types.specs.Quorum.{Quorum}
use Rattle.fluid_types.specs.Words.{blob_word, quorum_blobs}
use Rattle.fluid_types.specs.declared.quorum.QuorumBlob.{QuorumBlob}
use Rattle.fluid_types.specs.declared.quorum.QuorumBlob.TheVariants as word
use Rattle.fluid_rules.specs.Scribe.{protocol}
use Rattle.fluid_quorum.specs.Laws.{IsOnlyBlobs}
use Rattle.fluid_quorum.specs.Node.{node_of, AreTexts}
use Rattle.fluid_quorum.specs.Reading as quorum
use Rattle.fluid_quorum.specs.Reading.{find_child, as_utf8, text_in}
use Rattle.fluid_map.specs.Content as map_content
use Rattle.fluid_map.specs.Laws as map_laws
use Rattle.fluid_counter.specs.Laws as counter_laws
use Rattle.fluid_edits.specs.Forms.{kind_word}
use Rattle.fluid_edits.specs.Replay.{Channel, a_map, Channels, kind_of}
use Rattle.fluid_runtime.specs.AppTree.{app_tree, channel_node, content_of, answer}
use Rattle.fluid_runtime.specs.Laws.{AreStorable, IsListOf}
use Rattle.fluid_runtime.proofs.AnyOrder.{read_back_so}
use Rattle.fluid_store.specs.Held.{Held, IsShort}
use Rattle.fluid_store.specs.Standing.{Stands, AllStand, object_at}
use Rattle.fluid_store.proofs.Reread.{AreFit, Has, standing_fit, has_in_order, apart_in_order}
use Rattle.fluid_store.proofs.Sized.{Each}
use Rattle.fluid_store.proofs.Whole.{each_in_order, body_read}
use Rattle.fluid_loader.specs.Laws.{AreNamed}
use Rattle.fluid_loader.specs.Version.{node_within}
use Rattle.fluid_loader.proofs.Blobs.{same_word, answer_by, IsBlobOf, nodes_of as blob_nodes, entries_of as blob_entries, protocol_is, blob_names}
use Rattle.fluid_loader.proofs.Fetched.{blob_size, tree_size, pairs_in, in_each, in_apart, in_named, each_found, each_named}
use Rattle.fluid_loader.proofs.Honest.{two_in_order, keys_are, content_name, kind_name, pair, two_names, named_nodes, IsEntryOf, nodes_of, entries_of, has_name, names_utf8}
use Rattle.fluid_loader.proofs.Seen.{leaf, inner}
use Rattle.fluid_loader.proofs.Storable.{AreKept, channel_storable}

module _ (back : IsReadBack) (held : Held) (short : IsShort held) where
  object_by : (id bytes : List ℕ) (o : Object) → get held id ≡ Some bytes → object_read bytes ≡ Ok o → object_at held id ≡ Some o
  object_by id bytes o here read = ap (option_and_then (λ b. result_ok (object_read b))) here ∙ ap result_ok read

  -- a blob is read as what stands
  pub blob_exact : (levels : ℕ) (e : ObjectEntry) (content : List ℕ) → e.tree ≡ false → Stands held e.id (blob content) → node_within held levels e ≡ blob content
  blob_exact levels e content kind stands =
      let at = object_by e.id (object_bytes (Blob content)) (Blob content) stands (back (Blob content) (omega (arith, short e.id (object_bytes (Blob content)) stands, blob_size content))) in
      sym (leaf held levels e (Some (Blob content)) kind (sym at))

  pub tree_at : (id : List ℕ) (es : List ObjectEntry) → AreFit es → get held id ≡ Some (tree_bytes es) → object_at held id ≡ Some (Tree (in_order es))
  tree_at id es fit here = object_by id (tree_bytes es) (Tree (in_order es)) here (body_read back es fit.apart fit.fit (omega (arith, short id (tree_bytes es) here, tree_size es)))

  -- and a tree as one whose nodes are those of its entries, in their order
  pub tree_exact : (n : ℕ) (e : ObjectEntry) (es : List ObjectEntry) → e.tree ≡ true → AreFit es → get held e.id ≡ Some (tree_bytes es)
      → node_within held (suc n) e ≡ tree (children (named_nodes back held n (in_order es)))
  tree_exact n e es kind fit here = sym (inner held (suc n) n e (Some (Tree (in_order es))) refl kind (sym (tree_at e.id es fit here)))

  channel_exact : (e : ObjectEntry) (channel : Channel) → e.tree ≡ true → Stands held e.id (channel_node channel) → node_within held 1 e ≡ channel_node channel
  channel_exact e channel kind stands = by_entries stands.1.0 stands.1.1.0 stands.1.1.1
    where
      by_entries : (es : List ObjectEntry) → get held e.id ≡ Some (tree_bytes es) → AllStand held es (pair back held (blob (content_of channel)) (blob (kind_word (kind_of channel))))
          → node_within held 1 e ≡ channel_node channel
      by_entries [] here stand = absurd stand
      by_entries (a ∷ []) here stand = absurd stand.1.1.1.1
      by_entries (a ∷ b ∷ c ∷ cs) here stand = absurd stand.1.1.1.1.1.1.1.1
      by_entries (a ∷ b ∷ []) here stand =
          let rest = stand.1.1.1.1 in
          let fit = standing_fit held (a ∷ b ∷ []) (pair back held (blob (content_of channel)) (blob (kind_word (kind_of channel)))) stand stands.0 (two_names back held) in
          let sorted = two_in_order a b (keys_are a b (content_name back held) (kind_name back held) false false stand.0 stand.1.0 rest.0 rest.1.0) in
          let first = blob_exact 0 a (content_of channel) stand.1.0 stand.1.1.1.0 in
          let second = blob_exact 0 b (kind_word (kind_of channel)) rest.1.0 rest.1.1.1.0 in
          tree_exact 0 e (a ∷ b ∷ []) kind fit here ∙ ap (λ l. tree (children (named_nodes back held 0 l))) sorted
          ∙ (λ i. tree (child (stand.0 i) (first i) (child (rest.0 i) (second i) no_children)))

  module _ (channels : Channels) (named : AreNamed channels) where
    nodes_are : (es : List ObjectEntry) (h : Each (IsEntryOf back held channels) es)
        → named_nodes back held 1 es ≡ map (λ e. (e.0, channel_node e.1)) (pairs_in back held short channels named es h)
    nodes_are [] h = refl
    nodes_are (x ∷ es) h = λ i. (x.name, channel_exact x h.0.0 h.0.1.1.0 h.0.1.1.1 i) ∷ nodes_are es h.1 i

    module _ (maps : map_laws.IsReadBack) (counters : counter_laws.IsReadBack) (n : ℕ) (few : n ≤ 2 ^ 53) (kept : AreKept n channels)
        (texts : (at : List ℕ) (values : Values Json) → get channels at ≡ Some (a_map values) → IsUtf8 (map_content.content values)) where
      -- the channels are read where their tree stands
      pub app_exact : (e : ObjectEntry) → e.tree ≡ true → Stands held e.id (app_tree channels) → answer (node_within held 2 e) ≡ Ok channels
      app_exact e kind stands =
          let es = stands.1.0 in
          let cs = nodes_of back held channels (entries channels) in
          let fit = standing_fit held es cs stands.1.1.1 stands.0 (names_utf8 back held channels (entries channels) (each_named back held short channels named (entries channels) (each_found back held short channels named))) in
          let sorted = in_order es in
          let each : Each (IsEntryOf back held channels) sorted =
          each_in_order (IsEntryOf back held channels) [] es tt (entries_of back held channels (entries channels) es (each_found back held short channels named) stands.1.1.1) in
          let has : (at : List ℕ) (channel : Channel) → get channels at ≡ Some channel → Has (λ x. x.name ≡ at) sorted =
          λ at channel is. has_in_order (λ x. x.name ≡ at) es fit (has_name back held channels at channel (entries channels) es (sym (get-entries channels at) ∙ is) stands.1.1.1) in
          let pairs = pairs_in back held short channels named sorted each in
          let are : IsListOf channels pairs =
          record {
            apart = in_apart back held short channels named sorted each (apart_in_order es fit);
            each = in_each back held short channels named sorted each;
            all = λ at channel is. in_named back held short channels named at sorted each (has at channel is);
          } in
          let storable : AreStorable channels =
          λ at channel is. ((kept at channel is).0, channel_storable n channel few (kept at channel is).1 (λ values own. texts at values (is ∙ ap Some own))) in
          ap answer (tree_exact 1 e es kind fit stands.1.1.0 ∙ ap (λ l. tree (children l)) (nodes_are sorted each)) ∙ read_back_so maps counters channels storable pairs are

-- ---- the blobs

abbrev IsAmong : QuorumBlob → List QuorumBlob → Type 0
IsAmong b [] = ⊥
IsAmong b (c ∷ cs) = (c ≡ b) ⊎ IsAmong b cs

all_blobs : (b : QuorumBlob) → IsAmong b quorum_blobs
all_blobs word.Attributes = inl refl
all_blobs word.Members = inr (inl refl)
all_blobs word.Proposals = inr (inr (inl refl))
all_blobs word.Values = inr (inr (inr (inl refl)))

text_by : (cs : Children) (b : QuorumBlob) (t : List ℕ) → find_child (blob_word b) cs ≡ Some (blob t) → IsUtf8 t → text_in (tree cs) b ≡ Some t
unfolding text_in
text_by cs b t is utf8 = ap (λ o. option_and_then (λ s. option_and_then as_utf8 (as_blob s)) o) is ∙ ap (λ c. cond c (Some t) None) (is_utf8-from_IsUtf8 t utf8)

module _ (back : IsReadBack) (held : Held) (short : IsShort held) (q : Quorum) where
  has_blob : (bs : List QuorumBlob) (es : List ObjectEntry) (b : QuorumBlob) → AllStand held es (blob_nodes back held q bs) → IsAmong b bs → Has (λ x. x.name ≡ blob_word b) es
  has_blob [] es b stand h = absurd h
  has_blob (c ∷ cs) [] b stand h = absurd stand
  has_blob (c ∷ cs) (e ∷ es) b stand (inl is) = inl (stand.0 ∙ ap blob_word is)
  has_blob (c ∷ cs) (e ∷ es) b stand (inr later) = inr (has_blob cs es b stand.1.1.1.1 later)

  found_exact : (b : QuorumBlob) (xs : List ObjectEntry) → Each (IsBlobOf back held q) xs → Has (λ x. x.name ≡ blob_word b) xs
      → find_child (blob_word b) (children (named_nodes back held 1 xs)) ≡ Some (blob (blob_text q b))
  found_exact b [] each h = absurd h
  found_exact b (x ∷ xs) each h = by_name (found_exact b xs each.1) (bytes_eq x.name (blob_word b)) refl h
    where
      by_name : (Has (λ y. y.name ≡ blob_word b) xs → find_child (blob_word b) (children (named_nodes back held 1 xs)) ≡ Some (blob (blob_text q b))) → (c : Bool) → bytes_eq x.name (blob_word b) ≡ c
          → (x.name ≡ blob_word b) ⊎ Has (λ y. y.name ≡ blob_word b) xs
          → cond c (Some (node_within held 1 x)) (find_child (blob_word b) (children (named_nodes back held 1 xs))) ≡ Some (blob (blob_text q b))
      by_name again true own k =
          let its = each.0 in
          let same : its.0 ≡ b = same_word its.0 b (sym its.1.0 ∙ (bytes_eq-Decides x.name (blob_word b)).0 own) in
          ap Some (blob_exact back held short 1 x (blob_text q its.0) its.1.1.0 its.1.1.1 ∙ ap (λ c. blob (blob_text q c)) same)
      by_name again false own (inl is) = absurd (false≢true (sym own ∙ (bytes_eq-Decides x.name (blob_word b)).1 is))
      by_name again false own (inr later) = again later

  -- the quorum is read where its blobs stand, in a tree
  pub protocol_exact : IsOnlyBlobs → (AreTexts q → quorum.answer (node_of q) ≡ Ok q) → AreTexts q → (f : ObjectEntry) → f.tree ≡ true → Stands held f.id (protocol (blobs_of q))
      → (is_tree (node_within held 2 f) ≡ true) × (quorum.answer (node_within held 2 f) ≡ Ok q)
  protocol_exact only whole texts f kind stands =
      let there = subst (Stands held f.id) (protocol_is back held q) stands in
      let es = there.1.0 in
      let fit = standing_fit held es (blob_nodes back held q quorum_blobs) there.1.1.1 there.0 (blob_names back held q) in
      let sorted = in_order es in
      let each : Each (IsBlobOf back held q) sorted = each_in_order (IsBlobOf back held q) [] es tt (blob_entries back held q quorum_blobs es there.1.1.1) in
      let p = tree (children (named_nodes back held 1 sorted)) in
      let node : node_within held 2 f ≡ p = tree_exact back held short 1 f es kind fit there.1.1.0 in
      let own = whole texts in
      let text : (b : QuorumBlob) → text_in p b ≡ Some (blob_text q b) =
      λ b. text_by (children (named_nodes back held 1 sorted)) b (blob_text q b) (found_exact b sorted each (has_in_order (λ x. x.name ≡ blob_word b) es fit (has_blob quorum_blobs es b there.1.1.1 (all_blobs b)))) (texts b) in
      (ap is_tree node, ap quorum.answer node ∙ answer_by p (node_of q) (λ b. text b ∙ sym (only (node_of q) q own b)) ∙ own)
