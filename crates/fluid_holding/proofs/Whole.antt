-- The tree that a container uploads over its base is the whole one, where each object is held under its own id.
use Rattle.std.proofs.Common.{◌≡◌, ◌⊎◌, inl, inr, ℕ, suc, Bool, true, false, cond, not, if◌then◌else◌, List, [], ◌∷◌, ◌++◌, map, fold, Option, Some, None, is_some, Result, Ok, Err, bytes_eq, refl, sym, ap, subst, ◌∙◌, append_assoc}
use Rattle.std.specs.List.{AllByRecursion}
use Rattle.std.specs.Option.{unwrap_or}
use Rattle.std.specs.FinMap.{empty, entries, get, get-empty, insert}
use Rattle.std.specs.FinMap.Entries.{by_order, put}
use Rattle.std.specs.declared.cmp.Ordering.{Ordering}
use Rattle.std.specs.declared.cmp.Ordering.TheVariants.{Less, Equal, Greater}
use Rattle.std.proofs.lemmas.Slice.Eq.{bytes_eq-Decides}
use Rattle.sha1.specs.Sha1.{sha1}
use Rattle.fluid_table.specs.Table.{Values, byte_order}
use Rattle.fluid_table.proofs.Places.{get_inserted}
use Rattle.fluid_tree.specs.Names.{first_refused}
use Rattle.fluid_tree.specs.Object.{is_tree_object, object_bytes, tree_bytes}
use Rattle.fluid_tree.specs.Summary.{Summary, blob, tree, handle, Children, no_children, child, children, is_tree}
use Rattle.fluid_tree.specs.declared.object.Object.{Object}
use Rattle.fluid_tree.specs.declared.object.Object.TheVariants.{Blob, Tree}
use Rattle.fluid_tree.specs.declared.object.ObjectEntry.{ObjectEntry}
use Rattle.fluid_edits.specs.Replay.{Channel, Channels}
use Rattle.fluid_runtime.specs.AppTree.{app_tree, channel_node, node_since, tree_since}
use Rattle.fluid_runtime.specs.Laws.{Pairs, IsNamed, IsWholeUnmarked}
use Rattle.fluid_store.specs.Held.{Held}
use Rattle.fluid_store.specs.Fetching.{◌>>=◌, child_by, fetched, found, is_of_kind, node_within, nodes_by}
use Rattle.fluid_store.specs.Following.{at_end, onward, place_of, places_of}
use Rattle.fluid_store.specs.Laws.{HeldOnesAreLeftOut, IsFetchedStanding, IsLeftOut}
use Rattle.fluid_store.specs.Listed.{Keyed, object_of, in_key_order, joined, keyed, objects, own_bytes, own_entries}
use Rattle.fluid_store.specs.Parts.{Leads, Named, bytes_of, entry_of, keyed_parts, leads_in, objects_over, part_or, part_within, parts_within}
use Rattle.fluid_store.specs.Putting.{putting}
use Rattle.fluid_store.specs.Standing.{Stands, AllStand}
use Rattle.fluid_store.specs.declared.fault.StoreFault.{StoreFault}
use Rattle.fluid_store.specs.declared.fault.StoreFault.TheVariants.{BadObject}
use Rattle.fluid_store.specs.declared.listing.StoredObject.{StoredObject}
use Rattle.fluid_loader.specs.Laws.{AreNamed, IsBasedOn, IsSinceTree}
use Rattle.fluid_loader.proofs.Fetched.{of_blob}
use Rattle.fluid_transcript.specs.Containers.{app_id}
use Rattle.fluid_holding.specs.Holding.{HoldsOwn}
use Rattle.fluid_holding.specs.Laws.{BasedTreesAreWhole}
use Rattle.fluid_holding.proofs.Owned.{each_append, in_order_each}
use Rattle.fluid_holding.proofs.Taken.{Has, earlier, earlier_is, each_found, each_so, first_with, has_name, has_place, names_good, no_ok, ok_same, root, tree_is}

apart : false ≡ true → ⊥
apart same = cc

-- ---- what stands where each object is held under its own id

abbrev IsHeld : Held → StoredObject → Type 0
IsHeld held o = get held o.id ≡ Some o.bytes

module _ (held : Held) (own : HoldsOwn held) where
  mutual
    unfolding own_bytes own_entries

    stands_own : (s : Summary) (id : List ℕ) → Stands held id s → (get held id ≡ Some (own_bytes s)) × (id ≡ sha1 (own_bytes s))
    stands_own (blob content) id stands = (stands, own id (object_bytes (Blob content)) stands)
    stands_own (tree nodes) id stands =
        let there : get held id ≡ Some (tree_bytes (own_entries nodes)) = stands.1.1.0 ∙ ap (λ es. Some (tree_bytes es)) (entries_own stands.1.0 nodes stands.1.1.1) in
        (there, own id (tree_bytes (own_entries nodes)) there)
    stands_own (handle path) id stands = absurd stands

    entries_own : (es : List ObjectEntry) (nodes : Children) → AllStand held es nodes → es ≡ own_entries nodes
    entries_own [] no_children stand = refl
    entries_own [] (child name node nodes) stand = absurd stand
    entries_own (e ∷ es) no_children stand = absurd stand
    entries_own (e ∷ es) (child name node nodes) stand =
        let id_is = (stands_own node e.id stand.1.1.1.0).1 in
        let rest = entries_own es nodes stand.1.1.1.1 in
        λ i. record { name = stand.0 i; tree = stand.1.0 i; id = id_is i } ∷ rest i

  own_held : (s : Summary) (id : List ℕ) → Stands held id s → IsHeld held (object_of (own_bytes s))
  own_held s id stands = let is = stands_own s id stands in subst (λ x. get held x ≡ Some (own_bytes s)) is.1 is.0

  mutual
    unfolding objects keyed

    objects_held : (s : Summary) (id : List ℕ) → Stands held id s → AllByRecursion (IsHeld held) (objects s)
    objects_held (blob content) id stands = (own_held (blob content) id stands, tt)
    objects_held (tree nodes) id stands =
        each_append (IsHeld held) (joined (in_key_order (keyed nodes))) (object_of (own_bytes (tree nodes)) ∷ []) (in_order_each (IsHeld held) (keyed nodes) (keyed_held stands.1.0 nodes stands.1.1.1))
        (own_held (tree nodes) id stands, tt)
    objects_held (handle path) id stands = absurd stands

    keyed_held : (es : List ObjectEntry) (nodes : Children) → AllStand held es nodes → AllByRecursion (λ one. AllByRecursion (IsHeld held) one.1) (keyed nodes)
    keyed_held [] no_children stand = tt
    keyed_held [] (child name node nodes) stand = absurd stand
    keyed_held (e ∷ es) no_children stand = absurd stand
    keyed_held (e ∷ es) (child name node nodes) stand = (objects_held node e.id stand.1.1.1.0, keyed_held es nodes stand.1.1.1.1)

-- ---- objects that are left out

-- the same objects, or none where all of them are held
abbrev Fewer : Held → (whole rest : List StoredObject) → Type 0
Fewer held whole rest = (rest ≡ whole) ⊎ ((rest ≡ []) × AllByRecursion (IsHeld held) whole)

abbrev KeyedFewer : Held → (whole rest : Keyed) → Type 0
KeyedFewer held [] [] = Unit {0}
KeyedFewer held [] (j ∷ js) = ⊥
KeyedFewer held (k ∷ ks) [] = ⊥
KeyedFewer held (k ∷ ks) (j ∷ js) = (k.0 ≡ j.0) × (Fewer held k.1 j.1 × KeyedFewer held ks js)

module _ (held : Held) where
  put_fewer : (key : List ℕ) (whole rest : List StoredObject) (ks js : Keyed) → Fewer held whole rest → KeyedFewer held ks js → KeyedFewer held (put byte_order key whole ks) (put byte_order key rest js)
  put_fewer key whole rest [] [] one all = (refl, (one, tt))
  put_fewer key whole rest [] (j ∷ js) one all = absurd all
  put_fewer key whole rest (k ∷ ks) [] one all = absurd all
  put_fewer key whole rest (k ∷ ks) (j ∷ js) one all =
      subst
      (λ x. KeyedFewer held (by_order (byte_order key k.0) ((key, whole) ∷ k ∷ ks) ((k.0, whole) ∷ ks) (k ∷ put byte_order key whole ks))
      (by_order (byte_order key x) ((key, rest) ∷ j ∷ js) ((j.0, rest) ∷ js) (j ∷ put byte_order key rest js)))
      all.0 (by (byte_order key k.0) (put_fewer key whole rest ks js one all.1.1))
    where
      by : (o : Ordering) → KeyedFewer held (put byte_order key whole ks) (put byte_order key rest js)
          → KeyedFewer held (by_order o ((key, whole) ∷ k ∷ ks) ((k.0, whole) ∷ ks) (k ∷ put byte_order key whole ks)) (by_order o ((key, rest) ∷ j ∷ js) ((j.0, rest) ∷ js) (j ∷ put byte_order key rest js))
      by Less later = (refl, (one, all))
      by Equal later = (all.0, (one, all.1.1))
      by Greater later = (all.0, (all.1.0, later))

  sorted_fewer : (so_far rest ks js : Keyed) → KeyedFewer held so_far rest → KeyedFewer held ks js
      → KeyedFewer held (fold (λ sorted one. put byte_order one.0 one.1 sorted) so_far ks) (fold (λ sorted one. put byte_order one.0 one.1 sorted) rest js)
  sorted_fewer so_far rest [] [] before all = before
  sorted_fewer so_far rest [] (j ∷ js) before all = absurd all
  sorted_fewer so_far rest (k ∷ ks) [] before all = absurd all
  sorted_fewer so_far rest (k ∷ ks) (j ∷ js) before all =
      sorted_fewer (put byte_order k.0 k.1 so_far) (put byte_order j.0 j.1 rest) ks js
      (subst (λ key. KeyedFewer held (put byte_order k.0 k.1 so_far) (put byte_order key j.1 rest)) all.0 (put_fewer k.0 k.1 j.1 so_far rest all.1.0 before)) all.1.1

  module _ (law : HeldOnesAreLeftOut) where
    left_all : (os before after : List StoredObject) → AllByRecursion (IsHeld held) os → IsLeftOut (putting held (before ++ (os ++ after))) (putting held (before ++ after))
    left_all [] before after all = record { held = refl; clash = refl }
    left_all (o ∷ os) before after all =
        let first = law held before (os ++ after) o all.0 in
        let more = left_all os before after all.1 in
        record { held = first.held ∙ more.held; clash = first.clash ∙ more.clash }

    left_joined : (ks js : Keyed) (before after : List StoredObject) → KeyedFewer held ks js → IsLeftOut (putting held (before ++ (joined ks ++ after))) (putting held (before ++ (joined js ++ after)))
    left_joined [] [] before after all = record { held = refl; clash = refl }
    left_joined [] (j ∷ js) before after all = absurd all
    left_joined (k ∷ ks) [] before after all = absurd all
    left_joined (k ∷ ks) (j ∷ js) before after all = by all.1.0 (left_joined ks js (before ++ k.1) after all.1.1) (left_joined ks js before after all.1.1)
      where
        moved : (os : List StoredObject) (ms : Keyed) → before ++ ((os ++ joined ms) ++ after) ≡ (before ++ os) ++ (joined ms ++ after)
        moved os ms = ap (λ l. before ++ l) (append_assoc os (joined ms) after) ∙ sym (append_assoc before os (joined ms ++ after))

        by : Fewer held k.1 j.1 → IsLeftOut (putting held ((before ++ k.1) ++ (joined ks ++ after))) (putting held ((before ++ k.1) ++ (joined js ++ after)))
            → IsLeftOut (putting held (before ++ (joined ks ++ after))) (putting held (before ++ (joined js ++ after)))
            → IsLeftOut (putting held (before ++ ((k.1 ++ joined ks) ++ after))) (putting held (before ++ ((j.1 ++ joined js) ++ after)))
        by (inl same) behind alone =
            subst (λ l. IsLeftOut (putting held l) (putting held (before ++ ((j.1 ++ joined js) ++ after)))) (sym (moved k.1 ks))
            (subst (λ l. IsLeftOut (putting held ((before ++ k.1) ++ (joined ks ++ after))) (putting held l)) (sym (moved j.1 js ∙ ap (λ os. (before ++ os) ++ (joined js ++ after)) same)) behind)
        by (inr none) behind alone =
            let first = left_all k.1 before (joined ks ++ after) none.1 in
            let whole : before ++ ((k.1 ++ joined ks) ++ after) ≡ before ++ (k.1 ++ (joined ks ++ after)) = ap (λ l. before ++ l) (append_assoc k.1 (joined ks) after) in
            let rest : before ++ ((j.1 ++ joined js) ++ after) ≡ before ++ (joined js ++ after) = ap (λ os. before ++ ((os ++ joined js) ++ after)) none.0 in
            record {
              held = ap (λ l. (putting held l).held) whole ∙ first.held ∙ alone.held ∙ ap (λ l. (putting held l).held) (sym rest);
              clash = ap (λ l. (putting held l).clash) whole ∙ first.clash ∙ alone.clash ∙ ap (λ l. (putting held l).clash) (sym rest);
            }

-- ---- the place of a name, where each entry of that name has it

module _ {P : Type 0} (made : ObjectEntry → P) (at : List ℕ) (good : P) where
  abbrev IsGood : Option P → Type 0
  IsGood o = (o ≡ None) ⊎ (o ≡ Some good)

  good_more : (acc : Values P) (e : ObjectEntry) → IsGood (get acc at) → (e.name ≡ at → made e ≡ good) → IsGood (get (first_with made acc e) at)
  good_more acc e before is_good = by (get acc e.name)
    where
      inserted : (b : Bool) → bytes_eq at e.name ≡ b → IsGood (cond b (Some (made e)) (get acc at))
      inserted true is = inr (ap Some (is_good (sym ((bytes_eq-Decides at e.name).0 is))))
      inserted false is = before

      by : (o : Option P) → IsGood (get (if is_some o then acc else insert acc e.name (made e)) at)
      by None = subst IsGood (sym (get_inserted acc e.name (made e) at)) (inserted (bytes_eq at e.name) refl)
      by (Some p) = before

  good_all : (es : List ObjectEntry) (acc : Values P) → IsGood (get acc at) → AllByRecursion (λ e. e.name ≡ at → made e ≡ good) es → IsGood (get (fold (first_with made) acc es) at)
  good_all [] acc before all = before
  good_all (e ∷ es) acc before all = good_all es (first_with made acc e) (good_more acc e before all.0) all.1

is_good : {P : Type 0} (o : Option P) (good : P) → (o ≡ None) ⊎ (o ≡ Some good) → is_some o ≡ true → o ≡ Some good
is_good o good (inl none) some = absurd (apart (sym (ap is_some none) ∙ some))
is_good o good (inr is) some = is

-- ---- the entries of a tree that is read

child_same : (a b : List ℕ) (s t : Summary) (cs ds : Children) → child a s cs ≡ child b t ds → (a ≡ b) × ((s ≡ t) × (cs ≡ ds))
child_same a b s t cs ds is = (cc, (cc, cc))

no_child : (a : List ℕ) (s : Summary) (cs : Children) → child a s cs ≡ no_children → ⊥
no_child a s cs is = cc

abbrev nodes_of : Pairs → Children
nodes_of pairs = children (map (λ p. (p.0, channel_node p.1)) pairs)

nodes_each : (Q : ObjectEntry → Type 0) (F : List ℕ × Channel → Type 0) (node : ObjectEntry → Result Summary StoreFault)
    → ((e : ObjectEntry) (p : List ℕ × Channel) → F p → e.name ≡ p.0 → node e ≡ Ok (channel_node p.1) → Q e)
    → (es : List ObjectEntry) (pairs : Pairs) → AllByRecursion F pairs → nodes_by node es ≡ Ok (nodes_of pairs) → AllByRecursion Q es
nodes_each Q F node step [] pairs facts is = tt
nodes_each Q F node step (e ∷ es) pairs facts is = by_node (node e) refl (nodes_by node es) refl pairs facts is (λ ps more rest. nodes_each Q F node step es ps more rest)
  where
    by_node : (one : Result Summary StoreFault) → node e ≡ one → (others : Result Children StoreFault) → nodes_by node es ≡ others → (pairs : Pairs) → AllByRecursion F pairs
        → (one >>= λ s. others >>= λ cs. Ok (child e.name s cs)) ≡ Ok (nodes_of pairs) → ((ps : Pairs) → AllByRecursion F ps → nodes_by node es ≡ Ok (nodes_of ps) → AllByRecursion Q es)
        → AllByRecursion Q (e ∷ es)
    by_node (Err fault) own others rest pairs facts is again = absurd (no_ok fault (nodes_of pairs) is)
    by_node (Ok s) own (Err fault) rest pairs facts is again = absurd (no_ok fault (nodes_of pairs) is)
    by_node (Ok s) own (Ok cs) rest [] facts is again = absurd (no_child e.name s cs (ok_same (child e.name s cs) no_children is))
    by_node (Ok s) own (Ok cs) rest (p ∷ ps) facts is again =
        let same = child_same e.name p.0 s (channel_node p.1) cs (nodes_of ps) (ok_same (child e.name s cs) (child p.0 (channel_node p.1) (nodes_of ps)) is) in
        (step e p facts.0 same.0 (own ∙ ap Ok same.1.0), again ps facts.1 (rest ∙ ap Ok same.1.1))

has_one : {X : Type 0} (at : List ℕ) (es : List ObjectEntry) → Has at (map (λ e. e.name) es) → AllByRecursion (λ e. e.name ≡ at → X) es → X
has_one at [] has all = absurd has
has_one at (e ∷ es) (inl own) all = all.0 own
has_one at (e ∷ es) (inr later) all = has_one at es later all.1

-- ---- a node that is read

kind_tree : (b : Bool) (o : Object) → is_of_kind b o ≡ true → is_tree_object o ≡ true → b ≡ true
kind_tree true o is has = refl
kind_tree false o is has = absurd (apart (sym (ap not has) ∙ is))

no_blob : (content : List ℕ) (channel : Channel) → blob content ≡ channel_node channel → ⊥
no_blob content channel same = cc

module _ (held : Held) where
  is_tree_read : (o : Object) (channel : Channel) → node_within held 31 o ≡ Ok (channel_node channel) → is_tree_object o ≡ true
  is_tree_read (Blob content) channel is = absurd (no_blob content channel (ok_same (blob content) (channel_node channel) (sym (of_blob held 31 content) ∙ is)))
  is_tree_read (Tree es) channel is = refl

  -- the parts of a node that is read
  record IsRead (e : ObjectEntry) (channel : Channel) : Type 0 where
    fetched_is : fetched held 31 e.id ≡ Ok (channel_node channel)
    tree_is : e.tree ≡ true

  child_read : (e : ObjectEntry) (channel : Channel) → child_by held (node_within held 31) e ≡ Ok (channel_node channel) → IsRead e channel
  child_read e channel is = by (found held e.id) refl is
    where
      of_kind : (o : Object) → found held e.id ≡ Ok o → (b : Bool) → is_of_kind e.tree o ≡ b → (if b then node_within held 31 o else Err (BadObject e.id 0)) ≡ Ok (channel_node channel) → IsRead e channel
      of_kind o there true kind is =
          record { fetched_is = ap (λ r. r >>= node_within held 31) there ∙ is; tree_is = kind_tree e.tree o kind (is_tree_read o channel is) }
      of_kind o there false kind is = absurd (no_ok (BadObject e.id 0) (channel_node channel) is)

      by : (r : Result Object StoreFault) → found held e.id ≡ r → (r >>= λ object. if is_of_kind e.tree object then node_within held 31 object else Err (BadObject e.id 0)) ≡ Ok (channel_node channel)
          → IsRead e channel
      by (Err fault) there is = absurd (no_ok fault (channel_node channel) is)
      by (Ok o) there is = of_kind o there (is_of_kind e.tree o) refl is

-- ---- parts

-- the part of a node that stands for this one: its place, and the objects that are put for it
record IsPart (held : Held) (leads : Leads) (n : ℕ) (node s : Summary) : Type 0 where
  put_for : List StoredObject
  is : part_within leads n node ≡ Ok (record { place = record { tree = is_tree s; id = sha1 (own_bytes s) }; objects = put_for })
  fewer : Fewer held (objects s) put_for

module _ (held : Held) (leads : Leads) where
  changed_part : (n : ℕ) (channel : Channel) → IsPart held leads (suc n) (channel_node channel) (channel_node channel)
  unfolding part_within parts_within first_refused own_bytes own_entries objects keyed
  changed_part n channel = record { put_for = objects (channel_node channel); is = refl; fewer = inl refl }

  handle_part : (n : ℕ) (path : List (List ℕ)) (channel : Channel) → leads path ≡ Ok (record { place = record { tree = true; id = sha1 (own_bytes (channel_node channel)) }; objects = [] })
      → AllByRecursion (IsHeld held) (objects (channel_node channel)) → IsPart held leads (suc n) (handle path) (channel_node channel)
  unfolding part_within
  handle_part n path channel led all = record { put_for = []; is = led; fewer = inr (refl, all) }

  -- the parts of nodes that stand for channels
  record AreParts (n : ℕ) (f : List ℕ × Channel → Summary) (es : Pairs) : Type 0 where
    parts : Named
    are : parts_within leads n (children (map (λ e. (e.0, f e)) es)) ≡ Ok parts
    entries_are : map entry_of parts ≡ own_entries (nodes_of es)
    fewer : KeyedFewer held (keyed (nodes_of es)) (keyed_parts parts)

  all_are : (n : ℕ) (f : List ℕ × Channel → Summary) (es : Pairs) → AllByRecursion (λ e. IsPart held leads n (f e) (channel_node e.1)) es → AreParts n f es
  unfolding parts_within own_entries keyed
  all_are n f [] each = record { parts = []; are = refl; entries_are = refl; fewer = tt }
  all_are n f (e ∷ es) each =
      let more = all_are n f es each.1 in
      record {
        parts = (e.0, record { place = record { tree = true; id = sha1 (own_bytes (channel_node e.1)) }; objects = each.0.put_for }) ∷ more.parts;
        are =
            ap (λ r. r >>= λ part. parts_within leads n (children (map (λ e. (e.0, f e)) es)) >>= λ parts. Ok ((e.0, part) ∷ parts)) each.0.is
            ∙ ap (λ r. r >>= λ parts. Ok ((e.0, record { place = record { tree = true; id = sha1 (own_bytes (channel_node e.1)) }; objects = each.0.put_for }) ∷ parts)) more.are;
        entries_are = ap (λ es. record { name = e.0; tree = true; id = sha1 (own_bytes (channel_node e.1)) } ∷ es) more.entries_are;
        fewer = (refl, (each.0.fewer, more.fewer));
      }

-- ---- a handle

module _ (law : IsFetchedStanding) (held : Held) (own : HoldsOwn held) (base : List ℕ) (channels : Channels) (changed : Values Bool) (since : IsSinceTree held base channels changed) where
  node_read : (e : ObjectEntry) (p : List ℕ × Channel) → child_by held (node_within held 31) e ≡ Ok (channel_node p.1) → IsRead held e p.1 × Stands held e.id (channel_node p.1)
  node_read e p is = let read = child_read held e p.1 is in (read, (law held 31 e.id (channel_node p.1) (sym read.fetched_is)).0)

  some_same : (a b : Channel) → ◌≡◌ {A = Option Channel} (Some a) (Some b) → a ≡ b
  some_same a b same = cc

  module _ (at : List ℕ) (channel : Channel) (there : get channels at ≡ Some channel) (kept : get changed at ≡ Some false) where
    was : get since.earlier at ≡ Some channel
    was = since.since at kept ∙ there

    named : IsNamed at since.pairs
    named = since.are.all at channel was

    abbrev es : List ObjectEntry
    es = (root held base since.pairs since.reads).es

    same_channel : (e : ObjectEntry) (p : List ℕ × Channel) → get since.earlier p.0 ≡ Some p.1 → e.name ≡ p.0 → e.name ≡ at → p.1 ≡ channel
    same_channel e p fact name_is at_is = some_same p.1 channel (sym fact ∙ ap (get since.earlier) (sym name_is ∙ at_is) ∙ was)

    all_nodes : (Q : ObjectEntry → Type 0)
        → ((e : ObjectEntry) (p : List ℕ × Channel) → get since.earlier p.0 ≡ Some p.1 → e.name ≡ p.0 → child_by held (node_within held 31) e ≡ Ok (channel_node p.1) → Q e) → AllByRecursion Q es
    all_nodes Q step =
        nodes_each Q (λ p. get since.earlier p.0 ≡ Some p.1) (child_by held (node_within held 31)) step es since.pairs since.are.each (root held base since.pairs since.reads).nodes_are

    place_is : get (places_of es) at ≡ Some (record { tree = true; id = sha1 (own_bytes (channel_node channel)) })
    place_is =
        is_good (get (places_of es) at) _
        (good_all place_of at (record { tree = true; id = sha1 (own_bytes (channel_node channel)) }) es empty (inl (get-empty byte_order at))
        (all_nodes (λ e. e.name ≡ at → place_of e ≡ record { tree = true; id = sha1 (own_bytes (channel_node channel)) }) (λ e p fact name_is is at_is.
        let read = node_read e p is in
        let id_is : e.id ≡ sha1 (own_bytes (channel_node channel)) =
        (stands_own held own (channel_node p.1) e.id read.1).1 ∙ ap (λ c. sha1 (own_bytes (channel_node c))) (same_channel e p fact name_is at_is) in
        λ i. record { tree = read.0.tree_is i; id = id_is i })))
        (has_place held base since.pairs since.reads at named)

    objects_there : AllByRecursion (IsHeld held) (objects (channel_node channel))
    objects_there =
        has_one at es (has_name held base since.pairs since.reads at named)
        (all_nodes (λ e. e.name ≡ at → AllByRecursion (IsHeld held) (objects (channel_node channel))) (λ e p fact name_is is at_is.
        subst (λ c. AllByRecursion (IsHeld held) (objects (channel_node c))) (same_channel e p fact name_is at_is) (objects_held held own (channel_node p.1) e.id (node_read e p is).1)))

    kept_part : IsPart held (leads_in held (Some (earlier held base since.pairs since.reads))) 31 (handle (at ∷ [])) (channel_node channel)
    kept_part =
        handle_part held (leads_in held (Some (earlier held base since.pairs since.reads))) 30 (at ∷ []) channel
        (ap (λ o. onward (at_end held []) o >>= part_or (at ∷ [])) place_is) objects_there

  node_part : (e : List ℕ × Channel) → get channels e.0 ≡ Some e.1 → IsPart held (leads_in held (Some (earlier held base since.pairs since.reads))) 31 (node_since changed e.0 e.1) (channel_node e.1)
  node_part e there = by (get changed e.0) refl
    where
      by : (o : Option Bool) → get changed e.0 ≡ o
          → IsPart held (leads_in held (Some (earlier held base since.pairs since.reads))) 31 (if unwrap_or o true then channel_node e.1 else handle (e.0 ∷ [])) (channel_node e.1)
      by None said = changed_part held (leads_in held (Some (earlier held base since.pairs since.reads))) 30 e.1
      by (Some true) said = changed_part held (leads_in held (Some (earlier held base since.pairs since.reads))) 30 e.1
      by (Some false) said = kept_part e.0 e.1 there said

-- ---- the whole tree

pair_same : (a b : List ℕ × List StoredObject) → ◌≡◌ {A = Result (List ℕ × List StoredObject) StoreFault} (Ok a) (Ok b) → a ≡ b
pair_same a b same = cc

module _ (law : HeldOnesAreLeftOut) (held : Held) (channels : Channels) (named : AreNamed channels) where
  -- the id and the objects of these parts are those of the whole
  module _ (parts : Named) (entries_are : map entry_of parts ≡ own_entries (nodes_of (entries channels))) (fewer : KeyedFewer held (keyed (nodes_of (entries channels))) (keyed_parts parts)) where
    bytes_are : bytes_of parts ≡ own_bytes (app_tree channels)
    unfolding own_bytes
    bytes_are = ap tree_bytes entries_are

    left : IsLeftOut (putting held (objects (app_tree channels))) (putting held (joined (in_key_order (keyed_parts parts)) ++ object_of (own_bytes (app_tree channels)) ∷ []))
    unfolding objects
    left =
        left_joined held law (in_key_order (keyed (nodes_of (entries channels)))) (in_key_order (keyed_parts parts)) [] (object_of (own_bytes (app_tree channels)) ∷ [])
        (sorted_fewer held [] [] (keyed (nodes_of (entries channels))) (keyed_parts parts) tt fewer)

    pub record Are (own : List ℕ) (put : List StoredObject) : Type 0 where
      pub own_id : own ≡ app_id channels
      pub same : IsLeftOut (putting held (objects (app_tree channels))) (putting held put)

    are_whole : (own : List ℕ) (put : List StoredObject) → ◌≡◌ {A = List ℕ × List StoredObject} (sha1 (bytes_of parts), joined (in_key_order (keyed_parts parts)) ++ object_of (bytes_of parts) ∷ []) (own, put)
        → Are own put
    are_whole own put same = record {
      own_id = sym (ap (λ p. p.0) same) ∙ ap sha1 bytes_are;
      same =
          subst (λ os. IsLeftOut (putting held (objects (app_tree channels))) (putting held os))
          (ap (λ b. joined (in_key_order (keyed_parts parts)) ++ object_of b ∷ []) (sym bytes_are) ∙ ap (λ p. p.1) same) left;
    }

  -- over whatever earlier tree, where each node has its part
  whole_with : (leads : Leads) (f : List ℕ × Channel → Summary) → ((e : List ℕ × Channel) → get channels e.0 ≡ Some e.1 → IsPart held leads 31 (f e) (channel_node e.1)) → AreParts held leads 31 f (entries channels)
  whole_with leads f each = all_are held leads 31 f (entries channels) (each_so channels named (λ e. IsPart held leads 31 (f e) (channel_node e.1)) each (entries channels) (each_found channels))

module _ (unmarked : IsWholeUnmarked) (fetched_stand : IsFetchedStanding) (law : HeldOnesAreLeftOut) where
  whole_on : (held : Held) (base : Option (List ℕ)) (channels : Channels) (changed : Values Bool) (own : List ℕ) (put : List StoredObject) → HoldsOwn held → AreNamed channels → IsBasedOn held base channels changed
      → objects_over held base (tree_since changed channels) ≡ Ok (own, put) → (own ≡ app_id channels) × IsLeftOut (putting held (objects (app_tree channels))) (putting held put)
  whole_on held None channels changed own put owned named based is =
      let leads = leads_in held None in
      let all = whole_with law held channels named leads (λ e. channel_node e.1) (λ e there. changed_part held leads 30 e.1) in
      let part = tree_is leads 31 (nodes_of (entries channels)) all.parts (names_good channels named (λ e. channel_node e.1)) all.are in
      let over = ap (λ node. objects_over held None node) (sym (unmarked channels changed based)) in
      let same = pair_same _ (own, put) (sym (ap (λ r. r >>= λ part. Ok (part.place.id, part.objects)) part) ∙ over ∙ is) in
      let are = are_whole law held channels named all.parts all.entries_are all.fewer own put same in
      (are.own_id, are.same)
  whole_on held (Some base) channels changed own put owned named based is =
      let leads = leads_in held (Some (earlier held base based.pairs based.reads)) in
      let all = whole_with law held channels named leads (λ e. node_since changed e.0 e.1) (node_part fetched_stand held owned base channels changed based) in
      let part = tree_is leads 31 (children (map (λ e. (e.0, node_since changed e.0 e.1)) (entries channels))) all.parts (names_good channels named (λ e. node_since changed e.0 e.1)) all.are in
      let over = ap (λ r. ((r >>= λ earlier. Ok (Some earlier)) >>= λ earlier. part_within (leads_in held earlier) 32 (tree_since changed channels)) >>= λ part. Ok (part.place.id, part.objects))
      (earlier_is held base based.pairs based.reads) in
      let same = pair_same _ (own, put) (sym (ap (λ r. r >>= λ part. Ok (part.place.id, part.objects)) part) ∙ sym over ∙ is) in
      let are = are_whole law held channels named all.parts all.entries_are all.fewer own put same in
      (are.own_id, are.same)

  pub based_trees_are_whole : BasedTreesAreWhole
  based_trees_are_whole held c own put owned based is =
      let are = whole_on held c.base c.channels c.changed own put owned based.named based.on is in
      record { own_id = are.0; same = are.1 }
