-- The tree of the channels of a version that is read is fetched as the tree of these channels, in the order of its entries.
use Rattle.std.proofs.Common.{◌≡◌, ◌≢◌, ◌⊎◌, inl, inr, ℕ, suc, Bool, true, false, cond, ◌&&◌, not, List, [], ◌∷◌, map, Option, Some, None, is_some, option_and_then, Result, Ok, Err, bytes_eq, codes, refl, sym, ap, subst, ◌∙◌}
use Rattle.std.specs.List.{AllByRecursion}
use Rattle.std.specs.Option.{ok_or}
use Rattle.std.specs.FinMap.{get, insert, get-empty}
use Rattle.std.proofs.lemmas.Bool.{and_parts}
use Rattle.std.proofs.lemmas.Slice.Eq.{bytes_eq-Decides}
use Rattle.fluid_table.specs.Table.{byte_order}
use Rattle.fluid_table.proofs.Places.{get_inserted, get_own}
use Rattle.fluid_tree.specs.Summary.{Summary, blob, Children, no_children, child, children, as_blob, as_children}
use Rattle.fluid_tree.specs.declared.object.Object.{Object}
use Rattle.fluid_tree.specs.declared.object.Object.TheVariants.{Blob, Tree}
use Rattle.fluid_tree.specs.declared.object.ObjectEntry.{ObjectEntry}
use Rattle.fluid_types.specs.Names.{IsName, is_name}
use Rattle.fluid_types.specs.declared.fault.BlobFault.{BlobFault}
use Rattle.fluid_types.specs.declared.fault.BlobFault.TheVariants.{BadBlob}
use Rattle.fluid_map.specs.Content as map_content
use Rattle.fluid_counter.specs.Content as counter_content
use Rattle.fluid_edits.specs.declared.edit.ChannelKind.{ChannelKind}
use Rattle.fluid_edits.specs.declared.edit.ChannelKind.TheVariants.{Map, Counter}
use Rattle.fluid_edits.specs.Forms.{kind_word, kind_named}
use Rattle.fluid_edits.specs.Replay.{Channel, a_map, a_counter, Channels, kind_of, no_channels}
use Rattle.fluid_runtime.specs.AppTree.{◌>>=◌, channel_node, content_of, path, find_child, kind_in, channel_in, content_in, first_of, next, end, channel_answer, subtree, entry_answer, channels_answer, tree_answer, answer}
use Rattle.fluid_runtime.specs.Laws.{Pairs, AreApart, IsNamed, IsListOf, tree_in_order}
use Rattle.fluid_readback.proofs.Each.{then_some}
use Rattle.fluid_store.specs.Fetching.{nodes_by, fetched}
use Rattle.fluid_store.specs.Held.{Held}
use Rattle.fluid_store.specs.Standing.{object_at}
use Rattle.fluid_loader.specs.Version.{no_node, as_leaf, as_inner, node_within, nodes_within}
use Rattle.fluid_loader.proofs.Subtrees.{child_at, blob_child, tree_child, one_more, tree_fetched}
use Rattle.fluid_loader.proofs.Seen.{too_deep, leaf, inner}

bind_ok : {A B : Type 0} (r : Result A BlobFault) (f : A → Result B BlobFault) (b : B) → (r >>= f) ≡ Ok b → (a : A) × ((r ≡ Ok a) × (f a ≡ Ok b))
bind_ok (Ok a) f b h = (a, (refl, h))
bind_ok (Err e) f b h = cc

ok_some : {A : Type 0} (o : Option A) (fault : BlobFault) (a : A) → ok_or o fault ≡ Ok a → o ≡ Some a
ok_some (Some b) fault a h = let same : b ≡ a = cc in ap Some same
ok_some None fault a h = cc

same_text : (a b : List ℕ) → a ≡ b → bytes_eq a b ≡ true
same_text a b is = (bytes_eq-Decides a b).1 is

-- ---- an object under an id

module _ (held : Held) where
  -- ---- what a node that is read was made of

  record IsTree (n : ℕ) (e : ObjectEntry) (cs : Children) : Type 0 where
    its_entries : List ObjectEntry
    kind : e.tree ≡ true
    there : object_at held e.id ≡ Some (Tree its_entries)
    nodes : cs ≡ children (nodes_within held n its_entries)

  node_tree : (n : ℕ) (e : ObjectEntry) (cs : Children) → as_children (node_within held (suc n) e) ≡ Some cs → IsTree n e cs
  node_tree n e cs h = by_kind e.tree refl
    where
      by_object : (o : Option Object) → object_at held e.id ≡ o → e.tree ≡ true → as_children (as_inner (node_within held n) o) ≡ Some cs → IsTree n e cs
      by_object None is kind k = cc
      by_object (Some (Blob content)) is kind k = cc
      by_object (Some (Tree es)) is kind k = let same : children (nodes_within held n es) ≡ cs = cc in record { its_entries = es; kind = kind; there = is; nodes = sym same }

      by_leaf : (o : Option Object) → as_children (as_leaf o) ≡ Some cs → IsTree n e cs
      by_leaf None k = cc
      by_leaf (Some (Blob content)) k = cc
      by_leaf (Some (Tree es)) k = cc

      by_kind : (b : Bool) → e.tree ≡ b → IsTree n e cs
      by_kind true kind = by_object (object_at held e.id) refl kind (ap as_children (inner held (suc n) n e (object_at held e.id) refl kind refl) ∙ h)
      by_kind false kind = by_leaf (object_at held e.id) (ap as_children (leaf held (suc n) e (object_at held e.id) kind refl) ∙ h)

  node_blob : (e : ObjectEntry) (content : List ℕ) → as_blob (node_within held 0 e) ≡ Some content → (e.tree ≡ false) × (object_at held e.id ≡ Some (Blob content))
  node_blob e content h = by_kind e.tree refl
    where
      by_leaf : (o : Option Object) → e.tree ≡ false → object_at held e.id ≡ o → as_blob (as_leaf o) ≡ Some content → (e.tree ≡ false) × (object_at held e.id ≡ Some (Blob content))
      by_leaf None kind is k = cc
      by_leaf (Some (Tree es)) kind is k = cc
      by_leaf (Some (Blob other)) kind is k = let same : other ≡ content = cc in (kind, is ∙ ap (λ s. Some (Blob s)) same)

      none : as_blob no_node ≡ Some content → (e.tree ≡ false) × (object_at held e.id ≡ Some (Blob content))
      none k = cc

      by_kind : (b : Bool) → e.tree ≡ b → (e.tree ≡ false) × (object_at held e.id ≡ Some (Blob content))
      by_kind true kind = none (ap as_blob (too_deep held 0 e refl kind) ∙ h)
      by_kind false kind = by_leaf (object_at held e.id) kind refl (ap as_blob (leaf held 0 e (object_at held e.id) kind refl) ∙ h)

  -- ---- a channel

  abbrev content_name : List ℕ
  content_name = codes "content"

  abbrev kind_name : List ℕ
  kind_name = codes "kind"

  abbrev nodes : List ObjectEntry → Children
  nodes es = children (nodes_within held 0 es)

  -- the entry of the wanted name is the first
  record IsNext (wanted : List ℕ) (es : List ObjectEntry) (got : Summary × Children) : Type 0 where
    entry : ObjectEntry
    others : List ObjectEntry
    are : es ≡ entry ∷ others
    named : entry.name ≡ wanted
    node : got ≡ (node_within held 0 entry, nodes others)

  next_is : (at wanted : List ℕ) (es : List ObjectEntry) (got : Summary × Children) → next at wanted (nodes es) ≡ Ok got → IsNext wanted es got
  next_is at wanted [] got h = cc
  next_is at wanted (e ∷ es) got h = by_name (bytes_eq e.name wanted) refl h
    where
      by_name : (b : Bool) → bytes_eq e.name wanted ≡ b → cond b (Ok (node_within held 0 e, nodes es)) (Err (BadBlob (path at (first_of e.name wanted)))) ≡ Ok got → IsNext wanted (e ∷ es) got
      by_name true own k =
          let same : (node_within held 0 e, nodes es) ≡ got = cc in record { entry = e; others = es; are = refl; named = (bytes_eq-Decides e.name wanted).0 own; node = sym same }
      by_name false other k = cc

  map_exact : (content : List ℕ) (b : Bool) (channel : Channel) → map_content.is_content content ≡ b → cond b (Some (a_map (map_content.values_in content))) None ≡ Some channel
      → (content ≡ content_of channel) × (kind_of channel ≡ Map)
  map_exact content true channel is h =
      let same : a_map (map_content.values_in content) ≡ channel = cc in
      let own : content ≡ map_content.content (map_content.values_in content) = (bytes_eq-Decides content _).0 (and_parts _ _ is).1 in
      (own ∙ ap content_of same, ap kind_of (sym same))
  map_exact content false channel is h = cc

  counter_exact : (content : List ℕ) (b : Bool) (channel : Channel) → counter_content.is_content content ≡ b → cond b (Some (a_counter (counter_content.total_in content))) None ≡ Some channel
      → (content ≡ content_of channel) × (kind_of channel ≡ Counter)
  counter_exact content true channel is h =
      let same : a_counter (counter_content.total_in content) ≡ channel = cc in
      let own : content ≡ counter_content.content (counter_content.total_in content) = (bytes_eq-Decides content _).0 (and_parts _ _ is).0 in
      (own ∙ ap content_of same, ap kind_of (sym same))
  counter_exact content false channel is h = cc

  channel_exact : (kind : ChannelKind) (content : List ℕ) (channel : Channel) → channel_in kind content ≡ Some channel → (content ≡ content_of channel) × (kind_of channel ≡ kind)
  channel_exact Map content channel h = map_exact content (map_content.is_content content) channel refl h
  channel_exact Counter content channel h = counter_exact content (counter_content.is_content content) channel refl h

  word_exact : (word : List ℕ) (kind : ChannelKind) → kind_named word ≡ Some kind → word ≡ kind_word kind
  word_exact word kind h = by_map (bytes_eq word (codes "map")) refl h
    where
      by_counter : (b : Bool) → bytes_eq word (codes "counter") ≡ b → cond b (Some Counter) None ≡ Some kind → word ≡ kind_word kind
      by_counter true own k = let same : Counter ≡ kind = cc in (bytes_eq-Decides word (codes "counter")).0 own ∙ ap kind_word same
      by_counter false own k = cc

      by_map : (b : Bool) → bytes_eq word (codes "map") ≡ b → cond b (Some Map) (cond (bytes_eq word (codes "counter")) (Some Counter) None) ≡ Some kind → word ≡ kind_word kind
      by_map true own k = let same : Map ≡ kind = cc in (bytes_eq-Decides word (codes "map")).0 own ∙ ap kind_word same
      by_map false other k = by_counter (bytes_eq word (codes "counter")) refl k

  first_found : (name : List ℕ) (e : ObjectEntry) (es : List ObjectEntry) → e.name ≡ name → find_child name (nodes (e ∷ es)) ≡ Some (node_within held 0 e)
  first_found name e es is = ap (λ b. cond b (Some (node_within held 0 e)) (find_child name (nodes es))) (same_text e.name name is)

  none_left : (at : List ℕ) (es : List ObjectEntry) (channel c : Channel) → end at (nodes es) channel ≡ Ok c → (es ≡ []) × (channel ≡ c)
  none_left at [] channel c h = let same : channel ≡ c = cc in (refl, same)
  none_left at (e ∷ es) channel c h = cc

  -- the entries of a channel's subtree that is read are fetched as its two blobs
  two_read : (at : List ℕ) (es : List ObjectEntry) (c : Channel) (n : ℕ) → channel_answer at (nodes es) ≡ Ok c
      → nodes_by (child_at held n) es ≡ Ok (children ((content_name, blob (content_of c)) ∷ (kind_name, blob (kind_word (kind_of c))) ∷ []))
  two_read at es c n h =
      let one = bind_ok (next at content_name (nodes es)) _ c h in
      let first = next_is at content_name es one.0 one.1.0 in
      let two = bind_ok (ok_or (option_and_then (content_in (option_and_then kind_in (find_child kind_name one.0.1))) (as_blob one.0.0)) (BadBlob (path at content_name))) _ c one.1.1 in
      let three = bind_ok (next at kind_name one.0.1) _ c two.1.1 in
      let rest : one.0.1 ≡ nodes first.others = ap (λ g. g.1) first.node in
      let second = next_is at kind_name first.others three.0 (ap (next at kind_name) (sym rest) ∙ three.1.0) in
      let four = bind_ok (ok_or (kind_in three.0.0) (BadBlob (path at kind_name))) _ c three.1.1 in
      let left = none_left at second.others two.0 c (ap (λ g. end at g two.0) (sym (ap (λ g. g.1) second.node)) ∙ four.1.1) in
      let a = first.entry in
      let b = second.entry in
      let kind = four.0 in
      let said : kind_in (node_within held 0 b) ≡ Some kind = ap (λ g. kind_in g.0) (sym second.node) ∙ ok_some (kind_in three.0.0) _ kind four.1.0 in
      let found_kind : option_and_then kind_in (find_child kind_name one.0.1) ≡ Some kind =
      ap (λ cs. option_and_then kind_in (find_child kind_name cs)) (rest ∙ ap nodes second.are) ∙ ap (option_and_then kind_in) (first_found kind_name b second.others second.named) ∙ said in
      let read = ok_some (option_and_then (content_in (option_and_then kind_in (find_child kind_name one.0.1))) (as_blob one.0.0)) _ two.0 two.1.0 in
      let content = then_some (content_in (Some kind)) (as_blob one.0.0) two.0 (ap (λ k. option_and_then (content_in k) (as_blob one.0.0)) (sym found_kind) ∙ read) in
      let exact = channel_exact kind content.0 two.0 content.2 in
      let word = then_some kind_named (as_blob (node_within held 0 b)) kind said in
      let its_content = node_blob a content.0 (ap (λ g. as_blob g.0) (sym first.node) ∙ content.1) in
      let its_word = node_blob b word.0 word.1 in
      let words : word.0 ≡ kind_word (kind_of c) = word_exact word.0 kind word.2 ∙ ap kind_word (sym exact.1) ∙ ap (λ ch. kind_word (kind_of ch)) left.1 in
      let contents : content.0 ≡ content_of c = exact.0 ∙ ap content_of left.1 in
      let both : es ≡ a ∷ b ∷ [] = first.are ∙ ap (λ l. a ∷ l) (second.are ∙ ap (λ l. b ∷ l) left.0) in
      ap (nodes_by (child_at held n)) both
      ∙ one_more held n a (b ∷ []) (blob content.0) (child b.name (blob word.0) no_children) (blob_child held n a content.0 its_content.0 its_content.1)
      (one_more held n b [] (blob word.0) no_children (blob_child held n b word.0 its_word.0 its_word.1) refl)
      ∙ (λ i. Ok (child (first.named i) (blob (contents i)) (child (second.named i) (blob (words i)) no_children)))

  subtree_read : (at : List ℕ) (e : ObjectEntry) (c : Channel) (n : ℕ) → subtree at (as_children (node_within held 1 e)) ≡ Ok c → child_at held (suc n) e ≡ Ok (channel_node c)
  subtree_read at e c n h = by_children (as_children (node_within held 1 e)) refl h
    where
      by_children : (o : Option Children) → as_children (node_within held 1 e) ≡ o → subtree at o ≡ Ok c → child_at held (suc n) e ≡ Ok (channel_node c)
      by_children None is k = cc
      by_children (Some cs) is k =
          let t = node_tree 0 e cs is in
          tree_child held n e t.its_entries _ t.kind t.there (two_read at t.its_entries c n (ap (channel_answer at) (sym t.nodes) ∙ k))

  -- ---- all channels

  -- the channels that were read behind others
  record IsReadOn (so_far all : Channels) (es : List ObjectEntry) : Type 0 where
    pairs : Pairs
    fetches : nodes_by (child_at held 31) es ≡ Ok (children (map (λ e. (e.0, channel_node e.1)) pairs))
    apart : AreApart pairs
    new : AllByRecursion (λ e. get so_far e.0 ≡ None) pairs
    each : AllByRecursion (λ e. get all e.0 ≡ Some e.1) pairs
    kept : (at : List ℕ) (c : Channel) → get so_far at ≡ Some c → get all at ≡ Some c
    among : (at : List ℕ) (c : Channel) → get all at ≡ Some c → (get so_far at ≡ Some c) ⊎ IsNamed at pairs
    named : (at : List ℕ) (c : Channel) → get all at ≡ Some c → (get so_far at ≡ Some c) ⊎ IsName at

  none_of : (o : Option Channel) → not (is_some o) ≡ true → o ≡ None
  none_of None h = refl
  none_of (Some c) h = cc

  module _ (so_far : Channels) (key : List ℕ) (one : Channel) (fresh : get so_far key ≡ None) where
    abbrev more : Channels
    more = insert so_far key one

    still : (at : List ℕ) (c : Channel) → get so_far at ≡ Some c → get more at ≡ Some c
    still at c is = by_key (bytes_eq at key) refl ∙ is
      where
        by_key : (b : Bool) → bytes_eq at key ≡ b → get more at ≡ get so_far at
        by_key true own =
            let here : get so_far at ≡ None = ap (get so_far) ((bytes_eq-Decides at key).0 own) ∙ fresh in
            let both : None ≡ Some c = sym here ∙ is in
            cc
        by_key false other = get_inserted so_far key one at ∙ ap (λ b. cond b (Some one) (get so_far at)) other

    before : (at : List ℕ) (c : Channel) → get more at ≡ Some c → (get so_far at ≡ Some c) ⊎ (key ≡ at)
    before at c is = by_key (bytes_eq at key) refl
      where
        by_key : (b : Bool) → bytes_eq at key ≡ b → (get so_far at ≡ Some c) ⊎ (key ≡ at)
        by_key true own = inr (sym ((bytes_eq-Decides at key).0 own))
        by_key false other = inl (sym (get_inserted so_far key one at ∙ ap (λ b. cond b (Some one) (get so_far at)) other) ∙ is)

    none_before : (at : List ℕ) → get more at ≡ None → get so_far at ≡ None
    none_before at none = by_found (get so_far at) refl
      where
        by_found : (o : Option Channel) → get so_far at ≡ o → get so_far at ≡ None
        by_found None is = is
        by_found (Some c) is = let both : None ≡ Some c = sym none ∙ still at c is in cc

    other_than : (at : List ℕ) → get more at ≡ None → key ≢ at
    other_than at none same = let both : Some one ≡ None = sym (get_own so_far key one) ∙ ap (get more) same ∙ none in cc

    among_more : (at : List ℕ) (c : Channel) (P : Type 0) → (get more at ≡ Some c) ⊎ P → (get so_far at ≡ Some c) ⊎ ((key ≡ at) ⊎ P)
    among_more at c P (inr later) = inr (inr later)
    among_more at c P (inl is) = of (before at c is)
      where
        of : (get so_far at ≡ Some c) ⊎ (key ≡ at) → (get so_far at ≡ Some c) ⊎ ((key ≡ at) ⊎ P)
        of (inl earlier) = inl earlier
        of (inr own) = inr (inl own)

    named_more : IsName key → (at : List ℕ) (c : Channel) → (get more at ≡ Some c) ⊎ IsName at → (get so_far at ≡ Some c) ⊎ IsName at
    named_more name at c (inr named) = inr named
    named_more name at c (inl is) = of (before at c is)
      where
        of : (get so_far at ≡ Some c) ⊎ (key ≡ at) → (get so_far at ≡ Some c) ⊎ IsName at
        of (inl earlier) = inl earlier
        of (inr own) = inr (subst IsName own name)

  all_of : (P Q : List ℕ × Channel → Type 0) → ((e : List ℕ × Channel) → P e → Q e) → (pairs : Pairs) → AllByRecursion P pairs → AllByRecursion Q pairs
  all_of P Q f [] h = tt
  all_of P Q f (e ∷ es) h = (f e h.0, all_of P Q f es h.1)

  test_ok : (b : Bool) (r : Result Channel BlobFault) (fault : BlobFault) (c : Channel) → cond b r (Err fault) ≡ Ok c → (b ≡ true) × (r ≡ Ok c)
  test_ok true r fault c h = (refl, h)
  test_ok false r fault c h = cc

  read_on : (so_far all : Channels) (es : List ObjectEntry) → channels_answer so_far (children (nodes_within held 1 es)) ≡ Ok all → IsReadOn so_far all es
  read_on so_far all [] h =
      let same : so_far ≡ all = cc in
      record {
        pairs = [];
        fetches = refl;
        apart = tt;
        new = tt;
        each = tt;
        kept = λ at c is. ap (λ m. get m at) (sym same) ∙ is;
        among = λ at c is. inl (ap (λ m. get m at) same ∙ is);
        named = λ at c is. inl (ap (λ m. get m at) same ∙ is);
      }
  read_on so_far all (e ∷ es) h =
      let node = node_within held 1 e in
      let one = bind_ok (entry_answer so_far e.name node) (λ channel. channels_answer (insert so_far e.name channel) (children (nodes_within held 1 es))) all h in
      let c = one.0 in
      let test = test_ok (is_name e.name && not (is_some (get so_far e.name))) (subtree e.name (as_children node)) (BadBlob e.name) c one.1.0 in
      let parts = and_parts _ _ test.0 in
      let fresh : get so_far e.name ≡ None = none_of (get so_far e.name) parts.1 in
      let rest = read_on (insert so_far e.name c) all es one.1.1 in
      record {
        pairs = (e.name, c) ∷ rest.pairs;
        fetches = one_more held 31 e es (channel_node c) _ (subtree_read e.name e c 30 test.1) rest.fetches;
        apart = (all_of _ (λ f. e.name ≢ f.0) (λ f none. other_than so_far e.name c fresh f.0 none) rest.pairs rest.new, rest.apart);
        new = (fresh, all_of _ (λ f. get so_far f.0 ≡ None) (λ f none. none_before so_far e.name c fresh f.0 none) rest.pairs rest.new);
        each = (rest.kept e.name c (get_own so_far e.name c), rest.each);
        kept = λ at d is. rest.kept at d (still so_far e.name c fresh at d is);
        among = λ at d is. among_more so_far e.name c fresh at d (IsNamed at rest.pairs) (rest.among at d is);
        named = λ at d is. named_more so_far e.name c fresh parts.0 at d (rest.named at d is);
      }

  -- ---- the whole tree

  pub record IsReadTree (e : ObjectEntry) (all : Channels) : Type 0 where
    pub pairs : Pairs
    pub are : IsListOf all pairs
    pub reads : fetched held 32 e.id ≡ Ok (tree_in_order pairs)
    pub named : (at : List ℕ) (c : Channel) → get all at ≡ Some c → IsName at

  none_yet : {P : Type 0} (at : List ℕ) (c : Channel) → (get no_channels at ≡ Some c) ⊎ P → P
  none_yet at c (inl is) = let none : None ≡ Some c = sym (get-empty byte_order at) ∙ is in cc
  none_yet at c (inr p) = p

  pub app_tree_read : (e : ObjectEntry) (all : Channels) → answer (node_within held 2 e) ≡ Ok all → IsReadTree e all
  unfolding answer
  app_tree_read e all h = by_children (as_children (node_within held 2 e)) refl h
    where
      by_children : (o : Option Children) → as_children (node_within held 2 e) ≡ o → tree_answer o ≡ Ok all → IsReadTree e all
      by_children None is k = cc
      by_children (Some cs) is k =
          let t = node_tree 1 e cs is in
          let read = read_on no_channels all t.its_entries (ap (channels_answer no_channels) (sym t.nodes) ∙ k) in
          record {
            pairs = read.pairs;
            are = record { apart = read.apart; each = read.each; all = λ at c own. none_yet at c (read.among at c own) };
            reads = tree_fetched held e.id t.its_entries _ t.there read.fetches;
            named = λ at c own. none_yet at c (read.named at c own);
          }
