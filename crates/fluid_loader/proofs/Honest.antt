-- What is read of an honest summary.
use Rattle.std.proofs.Common.{◌≡◌, ◌⊎◌, inl, inr, ℕ, suc, ◌≤◌, ◌^◌, ◌<◌, ◌==◌, Bool, true, false, cond, ◌&&◌, ◌||◌, not, ◌≢◌, List, [], ◌∷◌, map, Option, Some, None, is_some, Result, Ok, Err, bytes_eq, codes, Greater, refl, sym, ap, subst, ◌∙◌, arith}
use Rattle.std.specs.Prelude.{ok_or, nat_lt}
use Rattle.std.specs.List.{AllByRecursion, list_all}
use Rattle.std.specs.Ordering.{nat_cmp, match_ordering}
use Rattle.std.specs.Cmp.Lexicographic.{slice_cmp}
use Rattle.std.specs.Str.{IsAscii, IsUtf8}
use Rattle.std.specs.FinMap.{entries, get, insert, get-entries}
use Rattle.std.specs.FinMap.Entries.{find}
use Rattle.std.proofs.lemmas.Bool.{and_parts, leb-true, ltb-true, eqb-true}
use Rattle.std.proofs.lemmas.Map.Text.{is_eq-slice_cmp}
use Rattle.std.proofs.lemmas.Slice.Eq.{bytes_eq-Decides}
use Rattle.std.proofs.lemmas.Str.{IsUtf8-from_is_utf8, IsUtf8-from_ascii}
use Rattle.std.proofs.lemmas.Str.Ascii.{IsAscii-nil, IsAscii-cons}
use Rattle.fluid_table.specs.Table.{byte_order, Values}
use Rattle.fluid_tree.specs.Laws.{IsReadBack}
use Rattle.fluid_tree.specs.Object.{sort_key, in_order}
use Rattle.fluid_tree.specs.Summary.{Summary, blob, tree, Children, no_children, child, children, names, as_children}
use Rattle.fluid_tree.specs.declared.object.Object.{Object}
use Rattle.fluid_tree.specs.declared.object.Object.TheVariants.{Blob, Tree}
use Rattle.fluid_tree.specs.declared.object.ObjectEntry.{ObjectEntry}
use Rattle.fluid_types.specs.Names.{IsName, is_name, is_within, is_name_byte}
use Rattle.fluid_types.specs.declared.fault.BlobFault.{BlobFault}
use Rattle.fluid_types.specs.declared.fault.BlobFault.TheVariants.{BadBlob}
use Rattle.fluid_json.specs.Tree.{Tree as Json}
use Rattle.fluid_map.specs.Content as map_content
use Rattle.fluid_map.specs.Laws as map_laws
use Rattle.fluid_counter.specs.Laws as counter_laws
use Rattle.fluid_edits.specs.Forms.{kind_word}
use Rattle.fluid_edits.specs.Replay.{Channel, a_map, a_counter, Channels, kind_of, no_channels}
use Rattle.fluid_runtime.specs.AppTree.{◌>>=◌, app_tree, channel_node, content_of, path, subtree, entry_answer, channels_answer, answer}
use Rattle.fluid_store.specs.Held.{Held}
use Rattle.fluid_store.specs.Standing.{Stands, AllStand, object_at}
use Rattle.fluid_runtime.specs.Laws.{AreStorable, Pairs, AreApart, IsNamed, IsListOf}
use Rattle.fluid_runtime.proofs.AnyOrder.{read_back_so}
use Rattle.fluid_runtime.proofs.Nodes.{found_there}
use Rattle.fluid_readback.proofs.Each.{each-all}
use Rattle.fluid_store.proofs.Reread.{AllUtf8, AreFit, Has, standing_fit, reread_blob, reread_tree, has_in_order, apart_in_order}
use Rattle.fluid_store.proofs.Sized.{Each}
use Rattle.fluid_store.proofs.Whole.{IsApart, AreApart as AreApartEntries, each_in_order}
use Rattle.fluid_loader.proofs.Storable.{AreKept, channel_storable}
use Rattle.fluid_loader.specs.Version.{no_node, as_leaf, as_inner, node_within}
use Rattle.fluid_loader.proofs.Seen.{leaf, inner}

-- ---- two entries in their order

pub two_in_order : (e f : ObjectEntry) → slice_cmp nat_cmp (sort_key f.tree f.name) (sort_key e.tree e.name) ≡ Greater → in_order (e ∷ f ∷ []) ≡ e ∷ f ∷ []
two_in_order e f h = ap (λ o. match_ordering o (f ∷ e ∷ []) (f ∷ []) (e ∷ f ∷ [])) h

pub keys_are : (e f : ObjectEntry) (n m : List ℕ) (b c : Bool) → e.name ≡ n → e.tree ≡ b → f.name ≡ m → f.tree ≡ c
    → slice_cmp nat_cmp (sort_key f.tree f.name) (sort_key e.tree e.name) ≡ slice_cmp nat_cmp (sort_key c m) (sort_key b n)
keys_are e f n m b c en et fn ft = λ i. slice_cmp nat_cmp (sort_key (ft i) (fn i)) (sort_key (et i) (en i))

-- ---- names are UTF-8

byte_within : (least most byte : ℕ) → is_within least most byte ≡ true → byte ≤ most
byte_within least most byte h = leb-true byte most (and_parts _ _ h).1

name_byte : (byte : ℕ) → is_name_byte byte ≡ true → byte < 128
name_byte byte h = by_tests (is_within 65 90 byte) (is_within 97 122 byte) (is_within 48 57 byte) (byte == 95) (byte == 45) refl refl refl refl refl h
  where
    by_tests : (p q r s t : Bool) → is_within 65 90 byte ≡ p → is_within 97 122 byte ≡ q → is_within 48 57 byte ≡ r → (byte == 95) ≡ s → (byte == 45) ≡ t → (p || q || r || s || t) ≡ true → byte < 128
    by_tests true q r s t a b c d e k = omega (arith, byte_within 65 90 byte a)
    by_tests false true r s t a b c d e k = omega (arith, byte_within 97 122 byte b)
    by_tests false false true s t a b c d e k = omega (arith, byte_within 48 57 byte c)
    by_tests false false false true t a b c d e k = omega (arith, eqb-true byte 95 d)
    by_tests false false false false true a b c d e k = omega (arith, eqb-true byte 45 e)
    by_tests false false false false false a b c d e k = cc

name_bytes : (bs : List ℕ) → list_all is_name_byte bs ≡ true → IsAscii bs
name_bytes [] h = IsAscii-nil
name_bytes (b ∷ bs) h = let parts = and_parts (is_name_byte b) (list_all is_name_byte bs) h in IsAscii-cons b bs (name_byte b parts.0) (name_bytes bs parts.1)

pub name_utf8 : (name : List ℕ) → IsName name → IsUtf8 name
unfolding is_name
name_utf8 name h = IsUtf8-from_ascii name (name_bytes name (and_parts _ _ h).1)

plain_bytes : (bs : List ℕ) → list_all (λ b. nat_lt b 128) bs ≡ true → IsAscii bs
plain_bytes [] h = IsAscii-nil
plain_bytes (b ∷ bs) h = let parts = and_parts (nat_lt b 128) (list_all (λ c. nat_lt c 128) bs) h in IsAscii-cons b bs (ltb-true b 128 parts.0) (plain_bytes bs parts.1)

pub plain_utf8 : (bs : List ℕ) → list_all (λ b. nat_lt b 128) bs ≡ true → IsUtf8 bs
plain_utf8 bs h = IsUtf8-from_ascii bs (plain_bytes bs h)

-- ---- nodes that are read

module _ (back : IsReadBack) (held : Held) where
  -- a blob, or nothing
  pub blob_read : (levels : ℕ) (e : ObjectEntry) (content : List ℕ) → e.tree ≡ false → Stands held e.id (blob content) → (node_within held levels e ≡ no_node) ⊎ (node_within held levels e ≡ blob content)
  blob_read levels e content kind stands = by_object (object_at held e.id) refl
    where
      by_object : (o : Option Object) → object_at held e.id ≡ o → (node_within held levels e ≡ no_node) ⊎ (node_within held levels e ≡ blob content)
      by_object None is = inl (sym (leaf held levels e None kind (sym is)))
      by_object (Some (Tree es)) is = inl (sym (leaf held levels e (Some (Tree es)) kind (sym is)))
      by_object (Some (Blob other)) is =
          let same = reread_blob back held e.id content (Blob other) stands is in
          inr (sym (leaf held levels e (Some (Blob other)) kind (sym is)) ∙ ap (λ o. as_leaf (Some o)) same)

  -- the nodes of entries, one behind the other
  abbrev pub named_nodes : ℕ → List ObjectEntry → List (List ℕ × Summary)
  named_nodes levels es = map (λ e. (e.name, node_within held levels e)) es

  -- a tree of nodes with these entries, or nothing
  pub tree_read : (n : ℕ) (e : ObjectEntry) (cs : Children) (utf8 : AllUtf8 (names cs)) → e.tree ≡ true → Stands held e.id (tree cs)
      → (node_within held (suc n) e ≡ no_node) ⊎ ((es : List ObjectEntry) × ((AllStand held es cs × AreFit es) × (node_within held (suc n) e ≡ tree (children (named_nodes n (in_order es))))))
  tree_read n e cs utf8 kind stands = by_object (object_at held e.id) refl
    where
      by_object : (o : Option Object) → object_at held e.id ≡ o
          → (node_within held (suc n) e ≡ no_node) ⊎ ((es : List ObjectEntry) × ((AllStand held es cs × AreFit es) × (node_within held (suc n) e ≡ tree (children (named_nodes n (in_order es))))))
      by_object None is = inl (sym (inner held (suc n) n e None refl kind (sym is)))
      by_object (Some (Blob content)) is = inl (sym (inner held (suc n) n e (Some (Blob content)) refl kind (sym is)))
      by_object (Some (Tree got)) is =
          let es = stands.1.0 in
          let fit = standing_fit held es cs stands.1.1.1 stands.0 utf8 in
          let same = reread_tree back held e.id es (Tree got) fit.apart fit.fit stands.1.1.0 is in
          inr (es, ((stands.1.1.1, fit), sym (inner held (suc n) n e (Some (Tree got)) refl kind (sym is)) ∙ ap (λ o. as_inner (node_within held n) (Some o)) same))

  -- ---- a channel

  abbrev pub content_name : List ℕ
  content_name = codes "content"

  abbrev pub kind_name : List ℕ
  kind_name = codes "kind"

  abbrev pub pair : Summary → Summary → Children
  pair content kind = child content_name content (child kind_name kind no_children)

  pub two_names : AllUtf8 (content_name ∷ kind_name ∷ [])
  two_names = (plain_utf8 content_name refl, (plain_utf8 kind_name refl, tt))

  two_nodes : (n : ℕ) (es : List ObjectEntry) (content kind : List ℕ) → AllStand held es (pair (blob content) (blob kind))
      → (a : ObjectEntry) × ((b : ObjectEntry) × (((a.tree ≡ false) × Stands held a.id (blob content)) × (((b.tree ≡ false) × Stands held b.id (blob kind))
      × (children (named_nodes n (in_order es)) ≡ pair (node_within held n a) (node_within held n b)))))
  two_nodes n [] content kind stand = absurd stand
  two_nodes n (a ∷ []) content kind stand = absurd stand.1.1.1.1
  two_nodes n (a ∷ b ∷ c ∷ cs) content kind stand = absurd stand.1.1.1.1.1.1.1.1
  two_nodes n (a ∷ b ∷ []) content kind stand =
      let rest = stand.1.1.1.1 in
      let sorted : in_order (a ∷ b ∷ []) ≡ a ∷ b ∷ [] = two_in_order a b (keys_are a b content_name kind_name false false stand.0 stand.1.0 rest.0 rest.1.0) in (
        a,
        (
          b,
          (
            (stand.1.0, stand.1.1.1.0),
            (
              (rest.1.0, rest.1.1.1.0),
              ap (λ l. children (named_nodes n l)) sorted ∙ (λ i. child (stand.0 i) (node_within held n a) (child (rest.0 i) (node_within held n b) no_children)),
            ),
          ),
        ),
      )

  no_blob : (at : List ℕ) (kind : Summary) (c : Channel) → subtree at (Some (pair no_node kind)) ≡ Ok c → ⊥
  no_blob at kind c h = cc

  no_kind : (at content : List ℕ) (c : Channel) → subtree at (Some (pair (blob content) no_node)) ≡ Ok c → ⊥
  no_kind at content c h = cc

  is_content_by : (b : Bool) (one c : Channel) (fault : BlobFault) → (ok_or (cond b (Some one) None) fault >>= λ channel. Ok channel) ≡ Ok c → b ≡ true
  is_content_by true one c fault h = refl
  is_content_by false one c fault h = cc

  -- the content of a map that is read is UTF-8
  content_utf8 : (at : List ℕ) (channel c : Channel) → subtree at (as_children (channel_node channel)) ≡ Ok c → (kept : Values Json) → channel ≡ a_map kept → IsUtf8 (map_content.content kept)
  content_utf8 at (a_map values) c h kept is =
      let same : values ≡ kept = cc in
      let content = map_content.content values in
      let all = is_content_by (map_content.is_content content) (a_map (map_content.values_in content)) c (BadBlob (path at content_name)) h in
      subst (λ v. IsUtf8 (map_content.content v)) same (IsUtf8-from_is_utf8 content (and_parts _ _ all).0)
  content_utf8 at (a_counter total) c h kept is = cc

  nothing_there : (at : List ℕ) (c : Channel) → subtree at (as_children no_node) ≡ Ok c → ⊥
  nothing_there at c h = cc

  abbrev IsReadAs : ObjectEntry → Channel → Type 0
  IsReadAs e channel = (node_within held 1 e ≡ channel_node channel) × ((kept : Values Json) → channel ≡ a_map kept → IsUtf8 (map_content.content kept))

  as_whole : (e : ObjectEntry) (channel c : Channel) → subtree e.name (as_children (node_within held 1 e)) ≡ Ok c → node_within held 1 e ≡ channel_node channel → IsReadAs e channel
  as_whole e channel c h is = (is, content_utf8 e.name channel c (ap (λ node. subtree e.name (as_children node)) (sym is) ∙ h))

  by_parts : (e : ObjectEntry) (channel c : Channel) (content kind : Summary) → subtree e.name (as_children (node_within held 1 e)) ≡ Ok c → node_within held 1 e ≡ tree (pair content kind)
      → (content ≡ no_node) ⊎ (content ≡ blob (content_of channel)) → (kind ≡ no_node) ⊎ (kind ≡ blob (kind_word (kind_of channel))) → IsReadAs e channel
  by_parts e channel c content kind h is (inl none) k =
      absurd (no_blob e.name kind c (ap (λ s. subtree e.name (Some (pair s kind))) (sym none) ∙ ap (λ node. subtree e.name (as_children node)) (sym is) ∙ h))
  by_parts e channel c content kind h is (inr own) (inl none) =
      absurd (no_kind e.name (content_of channel) c ((λ i. subtree e.name (Some (pair (sym own i) (sym none i)))) ∙ ap (λ node. subtree e.name (as_children node)) (sym is) ∙ h))
  by_parts e channel c content kind h is (inr own) (inr one) = as_whole e channel c h (is ∙ (λ i. tree (pair (own i) (one i))))

  channel_read : (e : ObjectEntry) (channel c : Channel) → e.tree ≡ true → Stands held e.id (channel_node channel) → subtree e.name (as_children (node_within held 1 e)) ≡ Ok c → IsReadAs e channel
  channel_read e channel c kind stands h = by_tree (tree_read 0 e (pair (blob (content_of channel)) (blob (kind_word (kind_of channel)))) two_names kind stands)
    where
      by_tree : (node_within held 1 e ≡ no_node) ⊎ ((es : List ObjectEntry) × ((AllStand held es (pair (blob (content_of channel)) (blob (kind_word (kind_of channel)))) × AreFit es) × (node_within held 1 e ≡ tree (children (named_nodes 0 (in_order es))))))
          → IsReadAs e channel
      by_tree (inl none) = absurd (nothing_there e.name c (ap (λ node. subtree e.name (as_children node)) (sym none) ∙ h))
      by_tree (inr t) =
          let two = two_nodes 0 t.0 (content_of channel) (kind_word (kind_of channel)) t.1.0.0 in
          let a = two.0 in
          let b = two.1.0 in
          by_parts e channel c (node_within held 0 a) (node_within held 0 b) h (t.1.1 ∙ ap tree two.1.1.1.1) (blob_read 0 a (content_of channel) two.1.1.0.0 two.1.1.0.1)
          (blob_read 0 b (kind_word (kind_of channel)) two.1.1.1.0.0 two.1.1.1.0.1)

  -- ---- all channels

  bind_ok : {A B : Type 0} (r : Result A BlobFault) (f : A → Result B BlobFault) (b : B) → (r >>= f) ≡ Ok b → (a : A) × ((r ≡ Ok a) × (f a ≡ Ok b))
  bind_ok (Ok a) f b h = (a, (refl, h))
  bind_ok (Err e) f b h = cc

  by_test : (b : Bool) (one : Result Channel BlobFault) (fault : BlobFault) (c : Channel) → cond b one (Err fault) ≡ Ok c → one ≡ Ok c
  by_test true one fault c h = h
  by_test false one fault c h = cc

  module _ (channels : Channels) where
    -- an entry under whose name and id a channel stands
    abbrev pub IsEntryOf : ObjectEntry → Type 0
    IsEntryOf x = (channel : Channel) × ((get channels x.name ≡ Some channel) × ((x.tree ≡ true) × Stands held x.id (channel_node channel)))

    abbrev pub nodes_of : Pairs → Children
    nodes_of cs = children (map (λ c. (c.0, channel_node c.1)) cs)

    pub entries_of : (cs : Pairs) (es : List ObjectEntry) → AllByRecursion (λ c. get channels c.0 ≡ Some c.1) cs → AllStand held es (nodes_of cs) → Each IsEntryOf es
    entries_of [] [] known stand = tt
    entries_of [] (e ∷ es) known stand = absurd stand
    entries_of (c ∷ cs) [] known stand = absurd stand
    entries_of (c ∷ cs) (e ∷ es) known stand = ((c.1, (ap (get channels) stand.0 ∙ known.0, (stand.1.0, stand.1.1.1.0))), entries_of cs es known.1 stand.1.1.1.1)

    pub has_name : (at : List ℕ) (channel : Channel) (cs : Pairs) (es : List ObjectEntry) → find byte_order at cs ≡ Some channel → AllStand held es (nodes_of cs) → Has (λ x. x.name ≡ at) es
    has_name at channel [] es is stand = cc
    has_name at channel (c ∷ cs) [] is stand = absurd stand
    has_name at channel (c ∷ cs) (e ∷ es) is stand = by_name (λ k. has_name at channel cs es k stand.1.1.1.1) (bytes_eq at c.0) refl (sym (ap (λ b. cond b (Some c.1) (find byte_order at cs)) (is_eq-slice_cmp at c.0)) ∙ is)
      where
        by_name : (find byte_order at cs ≡ Some channel → Has (λ x. x.name ≡ at) es) → (b : Bool) → bytes_eq at c.0 ≡ b → cond b (Some c.1) (find byte_order at cs) ≡ Some channel
            → (e.name ≡ at) ⊎ Has (λ x. x.name ≡ at) es
        by_name later true own k = inl (stand.0 ∙ sym ((bytes_eq-Decides at c.0).0 own))
        by_name later false own k = inr (later k)

    pub names_utf8 : (cs : Pairs) → AllByRecursion (λ c. IsName c.0) cs → AllUtf8 (names (nodes_of cs))
    names_utf8 [] h = tt
    names_utf8 (c ∷ cs) h = (name_utf8 c.0 h.0, names_utf8 cs h.1)

    -- an entry that was read as the channel under its name
    abbrev IsReadEntry : ObjectEntry → Type 0
    IsReadEntry x = (channel : Channel) × ((get channels x.name ≡ Some channel) × IsReadAs x channel)

    entries_read : (so_far : Channels) (es : List ObjectEntry) (all : Channels) → Each IsEntryOf es → channels_answer so_far (children (named_nodes 1 es)) ≡ Ok all → Each IsReadEntry es
    entries_read so_far [] all each h = tt
    entries_read so_far (x ∷ es) all each h =
        let node = node_within held 1 x in
        let one = bind_ok (entry_answer so_far x.name node) (λ channel. channels_answer (insert so_far x.name channel) (children (named_nodes 1 es))) all h in
        let own = by_test (is_name x.name && not (is_some (get so_far x.name))) (subtree x.name (as_children node)) (BadBlob x.name) one.0 one.1.0 in
        let its = each.0 in
        ((its.0, (its.1.0, channel_read x its.0 one.0 its.1.1.0 its.1.1.1 own)), entries_read (insert so_far x.name one.0) es all each.1 one.1.1)

    abbrev pairs_from : (es : List ObjectEntry) → Each IsReadEntry es → Pairs
    pairs_from [] h = []
    pairs_from (x ∷ es) h = (x.name, h.0.0) ∷ pairs_from es h.1

    nodes_are : (es : List ObjectEntry) (h : Each IsReadEntry es) → named_nodes 1 es ≡ map (λ e. (e.0, channel_node e.1)) (pairs_from es h)
    nodes_are [] h = refl
    nodes_are (x ∷ es) h = λ i. (x.name, h.0.1.1.0 i) ∷ nodes_are es h.1 i

    pairs_each : (es : List ObjectEntry) (h : Each IsReadEntry es) → AllByRecursion (λ e. get channels e.0 ≡ Some e.1) (pairs_from es h)
    pairs_each [] h = tt
    pairs_each (x ∷ es) h = (h.0.1.0, pairs_each es h.1)

    apart_from : (x : ObjectEntry) (es : List ObjectEntry) (h : Each IsReadEntry es) → Each (IsApart x) es → AllByRecursion (λ f. x.name ≢ f.0) (pairs_from es h)
    apart_from x [] h apart = tt
    apart_from x (y ∷ es) h apart = (apart.0, apart_from x es h.1 apart.1)

    pairs_apart : (es : List ObjectEntry) (h : Each IsReadEntry es) → AreApartEntries es → AreApart (pairs_from es h)
    pairs_apart [] h apart = tt
    pairs_apart (x ∷ es) h apart = (apart_from x es h.1 apart.0, pairs_apart es h.1 apart.1)

    pairs_named : (at : List ℕ) (es : List ObjectEntry) (h : Each IsReadEntry es) → Has (λ x. x.name ≡ at) es → IsNamed at (pairs_from es h)
    pairs_named at [] h has = absurd has
    pairs_named at (x ∷ es) h (inl own) = inl own
    pairs_named at (x ∷ es) h (inr later) = inr (pairs_named at es h.1 later)

    utf8_at : (at : List ℕ) (channel : Channel) (es : List ObjectEntry) → Each IsReadEntry es → Has (λ x. x.name ≡ at) es → get channels at ≡ Some channel
        → (kept : Values Json) → channel ≡ a_map kept → IsUtf8 (map_content.content kept)
    utf8_at at channel [] h has is = absurd has
    utf8_at at channel (x ∷ es) h (inl own) is =
        let both : Some h.0.0 ≡ Some channel = sym h.0.1.0 ∙ ap (get channels) own ∙ is in
        let same : h.0.0 ≡ channel = cc in
        subst (λ c. (kept : Values Json) → c ≡ a_map kept → IsUtf8 (map_content.content kept)) same h.0.1.1.1
    utf8_at at channel (x ∷ es) h (inr later) is = utf8_at at channel es h.1 later is

    no_app : (all : Channels) → answer no_node ≡ Ok all → ⊥
    unfolding answer
    no_app all h = cc

    app_answer : (cs : Children) → answer (tree cs) ≡ channels_answer no_channels cs
    unfolding answer
    app_answer cs = refl

    module _ (maps : map_laws.IsReadBack) (counters : counter_laws.IsReadBack) (n : ℕ) (few : n ≤ 2 ^ 53) (kept : AreKept n channels) where
      each_found : AllByRecursion (λ c. get channels c.0 ≡ Some c.1) (entries channels)
      each_found = each-all (λ c. get channels c.0 ≡ Some c.1) (entries channels) (λ k d within. found_there channels k d within)

      each_named : (cs : Pairs) → AllByRecursion (λ c. get channels c.0 ≡ Some c.1) cs → AllByRecursion (λ c. IsName c.0) cs
      each_named [] h = tt
      each_named (c ∷ cs) h = ((kept c.0 c.1 h.0).0, each_named cs h.1)

      -- the channels that are read where the tree of these stands are these
      pub app_read : (e : ObjectEntry) (all : Channels) → e.tree ≡ true → Stands held e.id (app_tree channels) → answer (node_within held 2 e) ≡ Ok all → all ≡ channels
      app_read e all kind stands h = by_tree (tree_read 1 e (nodes_of (entries channels)) (names_utf8 (entries channels) (each_named (entries channels) each_found)) kind stands)
        where
          by_tree : (node_within held 2 e ≡ no_node) ⊎ ((es : List ObjectEntry) × ((AllStand held es (nodes_of (entries channels)) × AreFit es) × (node_within held 2 e ≡ tree (children (named_nodes 1 (in_order es))))))
              → all ≡ channels
          by_tree (inl none) = absurd (no_app all (ap answer (sym none) ∙ h))
          by_tree (inr t) =
              let es = t.0 in
              let sorted = in_order es in
              let fit = t.1.0.1 in
              let each = each_in_order IsEntryOf [] es tt (entries_of (entries channels) es each_found t.1.0.0) in
              let said = sym (app_answer (children (named_nodes 1 sorted))) ∙ ap answer (sym t.1.1) ∙ h in
              let read = entries_read no_channels sorted all each said in
              let has : (at : List ℕ) (channel : Channel) → get channels at ≡ Some channel → Has (λ x. x.name ≡ at) sorted =
              λ at channel is. has_in_order (λ x. x.name ≡ at) es fit (has_name at channel (entries channels) es (sym (get-entries channels at) ∙ is) t.1.0.0) in
              let are : IsListOf channels (pairs_from sorted read) =
              record { apart = pairs_apart sorted read (apart_in_order es fit); each = pairs_each sorted read; all = λ at channel is. pairs_named at sorted read (has at channel is) } in
              let storable : AreStorable channels =
              λ at channel is. ((kept at channel is).0, channel_storable n channel few (kept at channel is).1 (utf8_at at channel sorted read (has at channel is) is)) in
              let whole = read_back_so maps counters channels storable (pairs_from sorted read) are in
              let both : ◌≡◌ {A = Result Channels BlobFault} (Ok all) (Ok channels) =
              sym h ∙ ap answer (t.1.1 ∙ ap (λ l. tree (children l)) (nodes_are sorted read)) ∙ whole in
              cc
