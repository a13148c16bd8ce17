-- What is fetched where the tree of channels stands: the same tree, in whatever order its entries are read.
use Rattle.std.proofs.Common.{◌≡◌, ◌≢◌, inl, inr, ℕ, suc, zero, ◌≤◌, true, false, cond, List, [], ◌∷◌, length, map, flat_map, Some, Result, Ok, Err, codes, refl, sym, ap, ◌∙◌, arith}
use Rattle.std.specs.List.{AllByRecursion}
use Rattle.std.specs.FinMap.{entries, get, get-entries}
use Rattle.fluid_tree.specs.Laws.{IsReadBack}
use Rattle.fluid_tree.specs.Object.{entry_bytes, object_bytes, tree_bytes, in_order}
use Rattle.fluid_tree.specs.Reading.{object_read}
use Rattle.fluid_tree.specs.Summary.{Summary, blob, tree, Children, no_children, child, children}
use Rattle.fluid_tree.specs.declared.object.Object.{Object}
use Rattle.fluid_tree.specs.declared.object.Object.TheVariants.{Blob, Tree}
use Rattle.fluid_tree.specs.declared.object.ObjectEntry.{ObjectEntry}
use Rattle.fluid_types.specs.Names.{IsName}
use Rattle.fluid_edits.specs.Forms.{kind_word}
use Rattle.fluid_edits.specs.Replay.{Channel, Channels, kind_of}
use Rattle.fluid_runtime.specs.AppTree.{app_tree, channel_node, content_of}
use Rattle.fluid_runtime.specs.Laws.{Pairs, AreApart, IsNamed, IsListOf, tree_in_order}
use Rattle.fluid_runtime.proofs.Nodes.{found_there}
use Rattle.fluid_readback.proofs.Each.{each-all}
use Rattle.fluid_store.specs.Fetching.{◌>>=◌, found_as, read_as, found, is_of_kind, child_by, nodes_by, node_within, fetched}
use Rattle.fluid_store.specs.Held.{Held, IsShort}
use Rattle.fluid_store.specs.Standing.{Stands, AllStand}
use Rattle.fluid_store.specs.declared.fault.StoreFault.{StoreFault}
use Rattle.fluid_store.specs.declared.fault.StoreFault.TheVariants.{BadObject}
use Rattle.fluid_store.proofs.Reread.{AreFit, Has, standing_fit, has_in_order, apart_in_order}
use Rattle.fluid_store.proofs.Sized.{Each, body_size}
use Rattle.fluid_store.proofs.Whole.{IsApart, AreApart as AreApartEntries, each_in_order, body_read}
use Rattle.fluid_loader.specs.Laws.{AreNamed}
use Rattle.fluid_loader.proofs.Honest.{two_in_order, keys_are, content_name, kind_name, pair, two_names, IsEntryOf, nodes_of, entries_of, has_name, names_utf8}

pub blob_size : (content : List ℕ) → length content ≤ length (object_bytes (Blob content))
unfolding object_bytes
blob_size content = body_size (codes "blob") content

pub tree_size : (es : List ObjectEntry) → length (flat_map entry_bytes (in_order es)) ≤ length (tree_bytes es)
unfolding tree_bytes
tree_size es = body_size (codes "tree") (flat_map entry_bytes (in_order es))

pub of_blob : (held : Held) (levels : ℕ) (content : List ℕ) → node_within held levels (Blob content) ≡ Ok (blob content)
unfolding node_within
of_blob held zero content = refl
of_blob held (suc n) content = refl

pub of_tree : (held : Held) (n : ℕ) (es : List ObjectEntry) → node_within held (suc n) (Tree es) ≡ (nodes_by (child_by held (node_within held n)) es >>= λ nodes. Ok (tree nodes))
unfolding node_within
of_tree held n es = refl

module _ (back : IsReadBack) (held : Held) (short : IsShort held) where
  found_by : (id bytes : List ℕ) (o : Object) → get held id ≡ Some bytes → object_read bytes ≡ Ok o → found held id ≡ Ok o
  found_by id bytes o here read = ap (found_as id) here ∙ ap (read_as id) read

  blob_found : (id content : List ℕ) → Stands held id (blob content) → found held id ≡ Ok (Blob content)
  blob_found id content stands =
      found_by id (object_bytes (Blob content)) (Blob content) stands (back (Blob content) (omega (arith, short id (object_bytes (Blob content)) stands, blob_size content)))

  tree_found : (id : List ℕ) (es : List ObjectEntry) → AreFit es → get held id ≡ Some (tree_bytes es) → found held id ≡ Ok (Tree (in_order es))
  tree_found id es fit here =
      found_by id (tree_bytes es) (Tree (in_order es)) here (body_read back es fit.apart fit.fit (omega (arith, short id (tree_bytes es) here, tree_size es)))

  abbrev child_at : ℕ → ObjectEntry → Result Summary StoreFault
  child_at n = child_by held (node_within held n)

  blob_child : (n : ℕ) (e : ObjectEntry) (content : List ℕ) → e.tree ≡ false → Stands held e.id (blob content) → child_at n e ≡ Ok (blob content)
  blob_child n e content kind stands =
      ap (λ r. r >>= λ object. cond (is_of_kind e.tree object) (node_within held n object) (Err (BadObject e.id 0))) (blob_found e.id content stands)
      ∙ ap (λ b. cond (is_of_kind b (Blob content)) (node_within held n (Blob content)) (Err (BadObject e.id 0))) kind ∙ of_blob held n content

  tree_child : (n : ℕ) (e : ObjectEntry) (es : List ObjectEntry) (nodes : Children) → e.tree ≡ true → found held e.id ≡ Ok (Tree es) → nodes_by (child_at n) es ≡ Ok nodes → child_at (suc n) e ≡ Ok (tree nodes)
  tree_child n e es nodes kind here all =
      ap (λ r. r >>= λ object. cond (is_of_kind e.tree object) (node_within held (suc n) object) (Err (BadObject e.id 0))) here
      ∙ ap (λ b. cond (is_of_kind b (Tree es)) (node_within held (suc n) (Tree es)) (Err (BadObject e.id 0))) kind ∙ of_tree held n es ∙ ap (λ r. r >>= λ cs. Ok (tree cs)) all

  two_children : (n : ℕ) (a b : ObjectEntry) (x y : Summary) → child_at n a ≡ Ok x → child_at n b ≡ Ok y → nodes_by (child_at n) (a ∷ b ∷ []) ≡ Ok (child a.name x (child b.name y no_children))
  two_children n a b x y first second =
      ap (λ r. r >>= λ s. ((child_at n b >>= λ t. Ok (child b.name t no_children)) >>= λ nodes. Ok (child a.name s nodes))) first
      ∙ ap (λ r. (r >>= λ t. Ok (child b.name t no_children)) >>= λ nodes. Ok (child a.name x nodes)) second

  channel_child : (n : ℕ) (e : ObjectEntry) (channel : Channel) → e.tree ≡ true → Stands held e.id (channel_node channel) → child_at (suc n) e ≡ Ok (channel_node channel)
  channel_child n e channel kind stands = by_entries stands.1.0 stands.1.1.0 stands.1.1.1
    where
      by_entries : (es : List ObjectEntry) → get held e.id ≡ Some (tree_bytes es) → AllStand held es (pair back held (blob (content_of channel)) (blob (kind_word (kind_of channel)))) → child_at (suc n) e ≡ Ok (channel_node channel)
      by_entries [] here stand = absurd stand
      by_entries (a ∷ []) here stand = absurd stand.1.1.1.1
      by_entries (a ∷ b ∷ c ∷ cs) here stand = absurd stand.1.1.1.1.1.1.1.1
      by_entries (a ∷ b ∷ []) here stand =
          let rest = stand.1.1.1.1 in
          let fit = standing_fit held (a ∷ b ∷ []) (pair back held (blob (content_of channel)) (blob (kind_word (kind_of channel)))) stand stands.0 (two_names back held) in
          let sorted = two_in_order a b (keys_are a b (content_name back held) (kind_name back held) false false stand.0 stand.1.0 rest.0 rest.1.0) in
          let first = blob_child n a (content_of channel) stand.1.0 stand.1.1.1.0 in
          let second = blob_child n b (kind_word (kind_of channel)) rest.1.0 rest.1.1.1.0 in
          tree_child n e (a ∷ b ∷ []) _ kind (tree_found e.id (a ∷ b ∷ []) fit here ∙ ap (λ l. Ok (Tree l)) sorted) (two_children n a b (blob (content_of channel)) (blob (kind_word (kind_of channel))) first second)
          ∙ (λ i. Ok (tree (child (stand.0 i) (blob (content_of channel)) (child (rest.0 i) (blob (kind_word (kind_of channel))) no_children))))

  module _ (channels : Channels) (named : AreNamed channels) where
    abbrev pub Entry : ObjectEntry → Type 0
    Entry = IsEntryOf back held channels

    abbrev pub pairs_in : (es : List ObjectEntry) → Each Entry es → Pairs
    pairs_in [] h = []
    pairs_in (x ∷ es) h = (x.name, h.0.0) ∷ pairs_in es h.1

    all_children : (n : ℕ) (es : List ObjectEntry) (h : Each Entry es) → nodes_by (child_at (suc n)) es ≡ Ok (children (map (λ e. (e.0, channel_node e.1)) (pairs_in es h)))
    all_children n [] h = refl
    all_children n (x ∷ es) h =
        ap (λ r. r >>= λ s. (nodes_by (child_at (suc n)) es >>= λ nodes. Ok (child x.name s nodes))) (channel_child n x h.0.0 h.0.1.1.0 h.0.1.1.1)
        ∙ ap (λ r. r >>= λ nodes. Ok (child x.name (channel_node h.0.0) nodes)) (all_children n es h.1)

    pub in_each : (es : List ObjectEntry) (h : Each Entry es) → AllByRecursion (λ e. get channels e.0 ≡ Some e.1) (pairs_in es h)
    in_each [] h = tt
    in_each (x ∷ es) h = (h.0.1.0, in_each es h.1)

    apart_from : (x : ObjectEntry) (es : List ObjectEntry) (h : Each Entry es) → Each (IsApart x) es → AllByRecursion (λ f. x.name ≢ f.0) (pairs_in es h)
    apart_from x [] h apart = tt
    apart_from x (y ∷ es) h apart = (apart.0, apart_from x es h.1 apart.1)

    pub in_apart : (es : List ObjectEntry) (h : Each Entry es) → AreApartEntries es → AreApart (pairs_in es h)
    in_apart [] h apart = tt
    in_apart (x ∷ es) h apart = (apart_from x es h.1 apart.0, in_apart es h.1 apart.1)

    pub in_named : (at : List ℕ) (es : List ObjectEntry) (h : Each Entry es) → Has (λ x. x.name ≡ at) es → IsNamed at (pairs_in es h)
    in_named at [] h has = absurd has
    in_named at (x ∷ es) h (inl own) = inl own
    in_named at (x ∷ es) h (inr later) = inr (in_named at es h.1 later)

    pub each_found : AllByRecursion (λ c. get channels c.0 ≡ Some c.1) (entries channels)
    each_found = each-all (λ c. get channels c.0 ≡ Some c.1) (entries channels) (λ k d within. found_there channels k d within)

    pub each_named : (cs : Pairs) → AllByRecursion (λ c. get channels c.0 ≡ Some c.1) cs → AllByRecursion (λ c. IsName c.0) cs
    each_named [] h = tt
    each_named (c ∷ cs) h = (named c.0 c.1 h.0, each_named cs h.1)

    -- the channels, each once, and the tree of them in this order is fetched
    pub record IsFetched (id : List ℕ) : Type 0 where
      pub pairs : Pairs
      pub are : IsListOf channels pairs
      pub reads : fetched held 32 id ≡ Ok (tree_in_order pairs)

    pub app_fetched : (id : List ℕ) → Stands held id (app_tree channels) → IsFetched id
    app_fetched id stands =
        let es = stands.1.0 in
        let cs = nodes_of back held channels (entries channels) in
        let fit = standing_fit held es cs stands.1.1.1 stands.0 (names_utf8 back held channels (entries channels) (each_named (entries channels) each_found)) in
        let sorted = in_order es in
        let each : Each Entry sorted = each_in_order Entry [] es tt (entries_of back held channels (entries channels) es each_found stands.1.1.1) in
        let has : (at : List ℕ) (channel : Channel) → get channels at ≡ Some channel → Has (λ x. x.name ≡ at) sorted =
        λ at channel is. has_in_order (λ x. x.name ≡ at) es fit (has_name back held channels at channel (entries channels) es (sym (get-entries channels at) ∙ is) stands.1.1.1) in
        record {
          pairs = pairs_in sorted each;
          are = record { apart = in_apart sorted each (apart_in_order es fit); each = in_each sorted each; all = λ at channel is. in_named at sorted each (has at channel is) };
          reads =
              ap (λ r. r >>= node_within held 32) (tree_found id es fit stands.1.1.0) ∙ of_tree held 31 sorted ∙ ap (λ r. r >>= λ nodes. Ok (tree nodes)) (all_children 30 sorted each);
        }
