-- A tree whose handles lead into an earlier one stands with the nodes of that in their places.
use Rattle.std.proofs.Common.{◌≡◌, ℕ, zero, suc, length, Bool, true, false, cond, List, [], ◌∷◌, fold, map, Option, Some, None, is_some, Result, Ok, Err, if◌then◌else◌, bytes_eq, refl, sym, ap, subst, ◌∙◌}
use Rattle.std.specs.Option.{option_or}
use Rattle.std.specs.Prelude.{option_and_then, option_map, ok_or}
use Rattle.std.specs.List.{list_any}
use Rattle.std.specs.FinMap.{empty, get, insert, get-empty}
use Rattle.std.proofs.lemmas.Bool.{or_parts}
use Rattle.std.proofs.lemmas.Slice.Eq.{bytes_eq-Decides}
use Rattle.fluid_table.specs.Table.{byte_order, Values}
use Rattle.fluid_table.proofs.Places.{get_inserted}
use Rattle.fluid_tree.specs.Laws.{AreNamed, IsOfBytes}
use Rattle.fluid_tree.specs.Names.{is_bad, first_refused}
use Rattle.fluid_tree.specs.Object.{sort_key, object_bytes, is_tree_object}
use Rattle.fluid_tree.specs.Summary.{Summary, blob, tree, handle, Children, no_children, child, names, is_tree, as_children}
use Rattle.fluid_tree.specs.declared.object.Object.{Object}
use Rattle.fluid_tree.specs.declared.object.Object.TheVariants.{Blob, Tree}
use Rattle.fluid_tree.specs.declared.object.ObjectEntry.{ObjectEntry}
use Rattle.fluid_handles.specs.Resolved.{resolved, all_resolved, named, at_path as tree_at_path}
use Rattle.fluid_handles.specs.Resolved as handles
use Rattle.fluid_store.specs.Held.{Held, Keeps}
use Rattle.fluid_io.specs.Causes.{Tells}
use Rattle.fluid_store.specs.Keeping.{Holds, Adds, with_all}
use Rattle.fluid_store.specs.Laws.{IsResolvedStanding}
use Rattle.fluid_store.specs.Listed.{in_key_order, joined, object_of}
use Rattle.fluid_store.specs.Standing.{Stands, AllStand, object_at}
use Rattle.fluid_store.specs.Fetching.{◌>>=◌, found, is_of_kind, child_by, nodes_by, node_within, fetched}
use Rattle.fluid_store.specs.Following.{place_of, with_first, places_of, places_in, place_in, onward, at_end, AnEarlier, earlier_at, at_path}
use Rattle.fluid_store.specs.Parts.{Leads, Named, blob_part, entry_of, bytes_of, keyed_parts, tree_part, place_part, part_within, parts_within, part_or, leads_in, part_over, unrefused as unless_refused}
use Rattle.fluid_store.specs.Uploading.{IsEarlier, IsSizedIf, StandsResolved}
use Rattle.fluid_store.specs.declared.fault.StoreFault.{StoreFault}
use Rattle.fluid_store.specs.declared.fault.StoreFault.TheVariants.{BadObject}
use Rattle.fluid_store.specs.declared.following.Place.{Place}
use Rattle.fluid_store.specs.declared.listing.Part.{Part}
use Rattle.fluid_store.specs.declared.listing.StoredObject.{StoredObject}
use Rattle.fluid_store.proofs.Distinct.{AreDistinct, NotIn, EachHolds, each_holds, both_hold, keys_apart, plain_name, names_apart, unrefused, has_slash}
use Rattle.fluid_store.proofs.Fetched.{tree_within, tree_too_deep, bind_ok, kind_by, object_found, good, sized}
use Rattle.fluid_store.proofs.Sized.{Each, IsSized, id_size}
use Rattle.fluid_store.proofs.Stays.{stands_still}

-- ---- the first entry of a name

first_place : List ObjectEntry → List ℕ → Option Place
first_place [] q = None
first_place (e ∷ es) q = if bytes_eq q e.name then Some (place_of e) else first_place es q

same_name : (q k : List ℕ) → bytes_eq q k ≡ true → q ≡ k
same_name q k is = (bytes_eq-Decides q k).0 is

step_is : (places : Values Place) (e : ObjectEntry) (rest : Option Place) (q : List ℕ) (b c : Bool) → bytes_eq q e.name ≡ b → is_some (get places e.name) ≡ c
    → option_or (get (if c then places else insert places e.name (place_of e)) q) rest ≡ option_or (get places q) (if b then Some (place_of e) else rest)
step_is places e rest q b true own has = by_own b own
  where
    taken : (found : Option Place) → is_some found ≡ true → option_or found rest ≡ option_or found (Some (place_of e))
    taken None is = cc
    taken (Some place) is = refl

    by_own : (b : Bool) → bytes_eq q e.name ≡ b → option_or (get places q) rest ≡ option_or (get places q) (if b then Some (place_of e) else rest)
    by_own true is = taken (get places q) (ap (λ k. is_some (get places k)) (same_name q e.name is) ∙ has)
    by_own false is = refl
step_is places e rest q b false own has =
    ap (λ f. option_or f rest) (get_inserted places e.name (place_of e) q ∙ ap (λ x. cond x (Some (place_of e)) (get places q)) own) ∙ by_own b own
  where
    none : (found : Option Place) → is_some found ≡ false → found ≡ None
    none None is = refl
    none (Some place) is = cc

    by_own : (b : Bool) → bytes_eq q e.name ≡ b → option_or (cond b (Some (place_of e)) (get places q)) rest ≡ option_or (get places q) (if b then Some (place_of e) else rest)
    by_own true is = sym (ap (λ f. option_or f (Some (place_of e))) (ap (get places) (same_name q e.name is) ∙ none (get places e.name) has))
    by_own false is = refl

got_first : (es : List ObjectEntry) (places : Values Place) (q : List ℕ) → get (fold with_first places es) q ≡ option_or (get places q) (first_place es q)
unfolding first_place
got_first [] places q = by_found (get places q)
  where
    by_found : (found : Option Place) → found ≡ option_or found None
    by_found None = refl
    by_found (Some place) = refl
got_first (e ∷ es) places q =
    got_first es (with_first places e) q ∙ step_is places e (first_place es q) q (bytes_eq q e.name) (is_some (get places e.name)) refl refl

places_are : (es : List ObjectEntry) (q : List ℕ) → get (places_of es) q ≡ first_place es q
places_are es q = got_first es empty q ∙ ap (λ f. option_or f (first_place es q)) (get-empty byte_order q)

module _ (law : IsOfBytes) (named_law : AreNamed) (held : Held) where
  -- a node that was read at a place
  record IsRead (levels : ℕ) (place : Place) (s : Summary) : Type 0 where
    object : Object
    is_found : Ok object ≡ found held place.id
    is_node : Ok s ≡ node_within held levels object
    is_kind : place.tree ≡ is_tree_object object
    is_sized : length place.id ≡ 20

  kind_same : (b : Bool) (object : Object) → is_of_kind b object ≡ true → b ≡ is_tree_object object
  kind_same true object is = sym is
  kind_same false (Blob content) is = refl
  kind_same false (Tree entries) is = cc

  in_nodes : (n : ℕ) (es : List ObjectEntry) (cs : Children) (q : List ℕ) (place : Place) → Each IsSized es → Ok cs ≡ nodes_by (child_by held (node_within held n)) es → first_place es q ≡ Some place
      → (s : Summary) × ((named q cs ≡ Some s) × IsRead n place s)
  unfolding first_place
  in_nodes n [] cs q place known h is = cc
  in_nodes n (e ∷ es) cs q place known h is =
      let first = bind_ok (child_by held (node_within held n) e) _ cs h in
      let more = bind_ok (nodes_by (child_by held (node_within held n)) es) _ cs first.1.1 in
      let same : child e.name first.0 more.0 ≡ cs = let k = more.1.1 in cc in
      subst (λ ds. (s : Summary) × ((named q ds ≡ Some s) × IsRead n place s)) same
      (by_name (λ ds rest at. in_nodes n es ds q place known.1 rest at) first.0 more.0 first.1.0 more.1.0 (bytes_eq q e.name) refl is)
    where
      by_name : ((ds : Children) → Ok ds ≡ nodes_by (child_by held (node_within held n)) es → first_place es q ≡ Some place → (s : Summary) × ((named q ds ≡ Some s) × IsRead n place s))
          → (s : Summary) (ds : Children) → Ok s ≡ child_by held (node_within held n) e → Ok ds ≡ nodes_by (child_by held (node_within held n)) es → (b : Bool) → bytes_eq q e.name ≡ b
          → (if b then Some (place_of e) else first_place es q) ≡ Some place → (t : Summary) × (((if b then Some s else named q ds) ≡ Some t) × IsRead n place t)
      by_name later s ds one rest true own is =
          let at = bind_ok (found held e.id) _ s one in
          let kind = kind_by (is_of_kind e.tree at.0) (node_within held n at.0) (BadObject e.id 0) s at.1.1 in
          let same : place_of e ≡ place = cc in
          (s, (refl, subst (λ p. IsRead n p s) same (record { object = at.0; is_found = at.1.0; is_node = kind.1; is_kind = kind_same e.tree at.0 kind.0; is_sized = known.0 })))
      by_name later s ds one rest false own is = later ds rest is

  -- one step
  below_one : (levels : ℕ) (id : List ℕ) (object : Object) (s : Summary) (q : List ℕ) (place : Place) → object_at held id ≡ Some object → Ok s ≡ node_within held levels object → place_in object q ≡ Some place
      → (n : ℕ) × ((t : Summary) × ((option_and_then (named q) (as_children s) ≡ Some t) × IsRead n place t))
  below_one levels id (Blob content) s q place there h is = let none : None ≡ Some place = sym (get-empty byte_order q) ∙ is in cc
  below_one zero id (Tree entries) s q place there h is = let k = h ∙ sym (tree_too_deep held zero entries refl) in cc
  below_one (suc n) id (Tree entries) s q place there h is =
      let by = bind_ok (nodes_by (child_by held (node_within held n)) entries) (λ cs. Ok (tree cs)) s (h ∙ sym (tree_within held (suc n) n entries refl)) in
      let same : tree by.0 ≡ s = let k = by.1.1 in cc in
      let at = in_nodes n entries by.0 q place (sized held id entries there) by.1.0 (sym (places_are entries q) ∙ is) in
      (n, (at.0, (ap (λ t. option_and_then (named q) (as_children t)) (sym same) ∙ at.1.0, at.1.1)))

  Ends : List (List ℕ) → Place → Summary → Type 0
  Ends path place s = (n : ℕ) × ((t : Summary) × ((tree_at_path path s ≡ Some t) × IsRead n place t))

  along : (path : List (List ℕ)) (levels : ℕ) (from to : Place) (s : Summary) → IsRead levels from s → Ok (Some to) ≡ at_end held path from → Ends path to s
  unfolding Ends
  along [] levels from to s is h = let same : from ≡ to = cc in (levels, (s, (refl, subst (λ p. IsRead levels p s) same is)))
  along (name ∷ path) levels from to s is h =
      let at = bind_ok (found held from.id) (λ object. onward (at_end held path) (place_in object name)) (Some to) h in
      let same : at.0 ≡ is.object = let k = at.1.0 ∙ sym is.is_found in cc in
      by_place (λ n next t one k. along path n next to t one k) (place_in is.object name) refl (subst (λ o. Ok (Some to) ≡ onward (at_end held path) (place_in o name)) same at.1.1)
    where
      by_place : ((n : ℕ) (next : Place) (t : Summary) → IsRead n next t → Ok (Some to) ≡ at_end held path next → Ends path to t) → (next : Option Place) → place_in is.object name ≡ next → Ok (Some to) ≡ onward (at_end held path) next → Ends (name ∷ path) to s
      by_place again None there k = cc
      by_place again (Some next) there k =
          let one = below_one levels from.id is.object s name next (object_found held from.id is.object is.is_found) is.is_node there in
          let rest = again one.0 next one.1.0 one.1.1.1 k in
          (rest.0, (rest.1.0, (ap (option_and_then (tree_at_path path)) one.1.1.0 ∙ rest.1.1.0, rest.1.1.1)))

  read_stands : (levels : ℕ) (place : Place) (s : Summary) → IsRead levels place s → Stands held place.id s × ((place.tree ≡ is_tree s) × (length place.id ≡ 20))
  read_stands levels place s is =
      let one = good law named_law held levels place.id is.object s (object_found held place.id is.object is.is_found) is.is_node in
      (one.0.0, (is.is_kind ∙ sym one.1, is.is_sized))

  -- where a handle's path leads
  AreRight : Leads → Option Summary → Type 0
  AreRight leads earlier =
      (path : List (List ℕ)) (part : Part) → Ok part ≡ leads path
      → (s : Summary) × ((option_and_then (tree_at_path path) earlier ≡ Some s) × (Stands held part.place.id s × ((part.place.tree ≡ is_tree s) × (length part.place.id ≡ 20))))

  from_root : (path : List (List ℕ)) (earlier : AnEarlier) (s : Summary) (object : Object) (place : Place) → IsRead 32 earlier.own s → earlier.places ≡ places_in object → Ok object ≡ found held earlier.own.id
      → Ok (Some place) ≡ at_path held earlier path → Ends path place s
  from_root [] earlier s object place is places there h = along [] 32 earlier.own place s is h
  from_root (name ∷ path) earlier s object place is places there h =
      along (name ∷ path) 32 earlier.own place s is
      (h ∙ ap (λ ps. onward (at_end held path) (get ps name)) places ∙ ap (λ r. r >>= λ o. onward (at_end held path) (place_in o name)) there)

  placed : (path : List (List ℕ)) (r : Result (Option Place) StoreFault) (part : Part) → Ok part ≡ (r >>= part_or path) → (place : Place) × ((Ok (Some place) ≡ r) × (part ≡ place_part place))
  placed path (Ok None) part h = cc
  placed path (Ok (Some place)) part h = (place, (refl, let same : part ≡ place_part place = cc in same))
  placed path (Err e) part h = cc

  right_with : (id : List ℕ) (earlier : AnEarlier) (s : Summary) → length id ≡ 20 → Ok earlier ≡ earlier_at held id → fetched held 32 id ≡ Ok s → AreRight (leads_in held (Some earlier)) (Some s)
  unfolding AreRight Ends
  right_with id earlier s size at reads path part h =
      let root = bind_ok (found held id) _ earlier at in
      let own : record { own = record { tree = is_tree_object root.0; id = id }; places = places_in root.0 } ≡ earlier = let k = root.1.1 in cc in
      let node = bind_ok (found held id) (node_within held 32) s (sym reads) in
      let same : node.0 ≡ root.0 = let k = node.1.0 ∙ sym root.1.0 in cc in
      let here : IsRead 32 (record { tree = is_tree_object root.0; id = id }) s =
      record { object = root.0; is_found = root.1.0; is_node = node.1.1 ∙ ap (node_within held 32) same; is_kind = refl; is_sized = size } in
      let to = placed path (at_path held earlier path) part h in
      let ends = from_root path earlier s root.0 to.0 (subst (λ e. IsRead 32 e.own s) own here) (sym (ap (λ e. e.places) own))
      (root.1.0 ∙ ap (λ e. found held e.own.id) own) to.1.0 in
      let stands = read_stands ends.0 to.0 ends.1.0 ends.1.1.1 in
      (ends.1.0, (ends.1.1.0, (subst (λ p. Stands held p.place.id ends.1.0) (sym to.1.1) stands.0, (ap (λ p. p.place.tree) to.1.1 ∙ stands.1.0, ap (λ p. length p.place.id) to.1.1 ∙ stands.1.1))))

  right_without : AreRight (leads_in held None) None
  unfolding AreRight
  right_without path part h = cc

-- ---- names of parts

names_of : Named → List (List ℕ)
names_of parts = map (λ part. part.0) parts

not_in : (n : List ℕ) (b : Bool) (before : List (List ℕ)) (parts : Named) → has_slash n ≡ false → ((m : List ℕ) → list_any (λ one. bytes_eq one m) before ≡ false → bytes_eq n m ≡ false)
    → first_refused before (names_of parts) ≡ None → NotIn (sort_key b n) (keyed_parts parts)
unfolding names_of
not_in n b before [] plain known h = tt
not_in n b before (part ∷ parts) plain known h =
    let here = unrefused before part.0 (names_of parts) h in
    let both = or_parts (is_bad part.0) _ here.0 in (
      keys_apart b part.1.place.tree n part.0 plain (plain_name part.0 both.0) (names_apart n part.0 (known part.0 both.1)),
      not_in n b (part.0 ∷ before) parts plain (λ k none. known k (or_parts (bytes_eq part.0 k) _ none).1) here.1,
    )

keys_distinct : (before : List (List ℕ)) (parts : Named) → first_refused before (names_of parts) ≡ None → AreDistinct (keyed_parts parts)
unfolding names_of
keys_distinct before [] h = tt
keys_distinct before (part ∷ parts) h =
    let here = unrefused before part.0 (names_of parts) h in
    let both = or_parts (is_bad part.0) _ here.0 in
    (not_in part.0 part.1.place.tree (part.0 ∷ before) parts (plain_name part.0 both.0) (λ m none. (or_parts (bytes_eq part.0 m) _ none).0) here.1, keys_distinct (part.0 ∷ before) parts here.1)

names_pass : (refused : Option (List ℕ)) (u : Unit {0}) → Ok u ≡ unless_refused refused → refused ≡ None
names_pass None u h = refl
names_pass (Some name) u h = cc

-- ---- the whole tree

module _ (old new : Held) (leads : Leads) (earlier : Option Summary) (right : (path : List (List ℕ)) (part : Part) → Ok part ≡ leads path → (s : Summary) × ((option_and_then (tree_at_path path) earlier ≡ Some s) × (Stands old part.place.id s × ((part.place.tree ≡ is_tree s) × (length part.place.id ≡ 20))))) (keeps : Keeps old new) where
  record IsWhole (part : Part) (node : Summary) : Type 0 where
    whole : Summary
    is : resolved earlier node ≡ Ok whole
    stands : Stands new part.place.id whole
    kind : part.place.tree ≡ is_tree whole
    size : length part.place.id ≡ 20

  record AreWhole (parts : Named) (nodes : Children) : Type 0 where
    wholes : Children
    are : all_resolved earlier nodes ≡ Ok wholes
    stand : AllStand new (map entry_of parts) wholes
    names_are : names wholes ≡ names nodes

  whole_blob : (n : ℕ) (content : List ℕ) (part : Part) → Ok part ≡ part_within leads n (blob content) → Holds new part.objects → IsWhole part (blob content)
  unfolding part_within
  whole_blob zero content part h holds = let same : blob_part content ≡ part = cc in subst (λ p. Holds new p.objects → IsWhole p (blob content)) same (λ k. record { whole = blob content; is = refl; stands = k.0; kind = refl; size = id_size (object_bytes (Blob content)) }) holds
  whole_blob (suc n) content part h holds = let same : blob_part content ≡ part = cc in subst (λ p. Holds new p.objects → IsWhole p (blob content)) same (λ k. record { whole = blob content; is = refl; stands = k.0; kind = refl; size = id_size (object_bytes (Blob content)) }) holds

  whole_handle : (n : ℕ) (path : List (List ℕ)) (part : Part) → Ok part ≡ leads path → IsWhole part (handle path)
  whole_handle n path part h =
      let at = right path part h in
      record { whole = at.0; is = ap (λ s. ok_or s path) at.1.0; stands = stands_still old new keeps at.0 part.place.id at.1.1.0; kind = at.1.1.1.0; size = at.1.1.1.1 }

  handle_leads : (n : ℕ) (path : List (List ℕ)) (part : Part) → Ok part ≡ part_within leads n (handle path) → Ok part ≡ leads path
  unfolding part_within
  handle_leads zero path part h = h
  handle_leads (suc n) path part h = h

  no_tree : (nodes : Children) (part : Part) → Ok part ≡ part_within leads zero (tree nodes) → ⊥
  unfolding part_within
  no_tree nodes part h = cc

  tree_parts : (n : ℕ) (nodes : Children) (part : Part) → Ok part ≡ part_within leads (suc n) (tree nodes)
      → (first_refused [] (names nodes) ≡ None) × ((parts : Named) × ((Ok parts ≡ parts_within leads n nodes) × (tree_part parts ≡ part)))
  unfolding part_within
  tree_parts n nodes part h =
      let a = bind_ok (unless_refused (first_refused [] (names nodes))) _ part h in
      let b = bind_ok (parts_within leads n nodes) (λ parts. Ok (tree_part parts)) part a.1.1 in
      (names_pass (first_refused [] (names nodes)) a.0 a.1.0, (b.0, (b.1.0, let k = b.1.1 in cc)))

  one_part : (n : ℕ) (name : List ℕ) (node : Summary) (nodes : Children) (parts : Named) → Ok parts ≡ parts_within leads n (child name node nodes)
      → (part : Part) × ((Ok part ≡ part_within leads n node) × ((more : Named) × ((Ok more ≡ parts_within leads n nodes) × ((name, part) ∷ more ≡ parts))))
  unfolding parts_within
  one_part n name node nodes parts h =
      let a = bind_ok (part_within leads n node) _ parts h in
      let b = bind_ok (parts_within leads n nodes) (λ ps. Ok ((name, a.0) ∷ ps)) parts a.1.1 in
      (a.0, (a.1.0, (b.0, (b.1.0, let k = b.1.1 in cc))))

  none_parts : (n : ℕ) (parts : Named) → Ok parts ≡ parts_within leads n no_children → [] ≡ parts
  unfolding parts_within
  none_parts n parts h = cc

  part_names : (n : ℕ) (nodes : Children) (parts : Named) → Ok parts ≡ parts_within leads n nodes → names_of parts ≡ names nodes
  unfolding names_of
  part_names n no_children parts h = ap names_of (sym (none_parts n parts h))
  part_names n (child name node nodes) parts h =
      let one = one_part n name node nodes parts h in
      ap names_of (sym one.1.1.1.1) ∙ ap (λ l. name ∷ l) (part_names n nodes one.1.1.0 one.1.1.1.0)

  mutual
    whole : (n : ℕ) (node : Summary) (part : Part) → Ok part ≡ part_within leads n node → Holds new part.objects → IsWhole part node
    whole n (blob content) part h holds = whole_blob n content part h holds
    whole n (handle path) part h holds = whole_handle n path part (handle_leads n path part h)
    whole zero (tree nodes) part h holds = absurd (no_tree nodes part h)
    whole (suc n) (tree nodes) part h holds =
        let at = tree_parts n nodes part h in
        let parts = at.1.0 in
        let both = both_hold new (joined (in_key_order (keyed_parts parts))) (object_of (bytes_of parts) ∷ []) (subst (λ p. Holds new p.objects) (sym at.1.1.1) holds) in
        let each = each_holds new (keyed_parts parts) [] (keys_distinct [] parts (ap (first_refused []) (part_names n nodes parts at.1.1.0) ∙ at.0)) both.0 in
        let all = wholes n nodes parts at.1.1.0 each in
        subst (λ p. IsWhole p (tree nodes)) at.1.1.1
        (record {
          whole = tree all.wholes;
          is = ap (λ r. handles.◌>>=◌ r (λ w. Ok (tree w))) all.are;
          stands = (ap (first_refused []) all.names_are ∙ at.0, (map entry_of parts, (both.1.0, all.stand)));
          kind = refl;
          size = id_size (bytes_of parts);
        })

    wholes : (n : ℕ) (nodes : Children) (parts : Named) → Ok parts ≡ parts_within leads n nodes → EachHolds new (keyed_parts parts) → AreWhole parts nodes
    wholes n no_children parts h each =
        subst (λ ps. AreWhole ps no_children) (none_parts n parts h) (record { wholes = no_children; are = refl; stand = tt; names_are = refl })
    wholes n (child name node nodes) parts h each =
        let one = one_part n name node nodes parts h in
        let own = subst (λ ps. EachHolds new (keyed_parts ps)) (sym one.1.1.1.1) each in
        let first = whole n node one.0 one.1.0 own.0 in
        let rest = wholes n nodes one.1.1.0 one.1.1.1.0 own.1 in
        subst (λ ps. AreWhole ps (child name node nodes)) one.1.1.1.1
        (record {
          wholes = child name first.whole rest.wholes;
          are =
              ap (λ r. handles.◌>>=◌ r (λ s. handles.◌>>=◌ (all_resolved earlier nodes) (λ more. Ok (child name s more)))) first.is
              ∙ ap (λ r. handles.◌>>=◌ r (λ more. Ok (child name first.whole more))) rest.are;
          stand = (refl, (first.kind, (first.size, (first.stands, rest.stand))));
          names_are = ap (λ l. name ∷ l) rest.names_are;
        })

pub resolved_stands : IsOfBytes → AreNamed → (old new : Held) (base : Option (List ℕ)) (earlier : Option Summary) (node : Summary) (part : Part) → IsSizedIf base → Ok part ≡ part_over old base node
    → IsEarlier old base earlier → Keeps old new → Holds new part.objects → StandsResolved new earlier node part.place.id
unfolding AreRight
resolved_stands law named_law old new None None node part size h reads keeps holds =
    let w = whole old new (leads_in old None) None (right_without law named_law old) keeps 32 node part h holds in
    (w.whole, (w.is, w.stands))
resolved_stands law named_law old new None (Some s) node part size h reads keeps holds = absurd reads
resolved_stands law named_law old new (Some id) None node part size h reads keeps holds = absurd reads
resolved_stands law named_law old new (Some id) (Some s) node part size h reads keeps holds =
    let at = bind_ok (earlier_at old id >>= λ e. Ok (Some e)) (λ e. part_within (leads_in old e) 32 node) part h in
    let root = bind_ok (earlier_at old id) (λ e. Ok (Some e)) at.0 at.1.0 in
    let same : Some root.0 ≡ at.0 = let k = root.1.1 in cc in
    let w = whole old new (leads_in old (Some root.0)) (Some s) (right_with law named_law old id root.0 s size root.1.0 reads) keeps 32 node part
    (at.1.1 ∙ ap (λ e. part_within (leads_in old e) 32 node) (sym same)) holds in
    (w.whole, (w.is, w.stands))

pub stands_told : IsResolvedStanding → (base : Option (List ℕ)) (node : Summary) (part : Part) (os : List StoredObject) (old mid new : Option Held) → IsSizedIf base → mid ≡ old
    → Tells old (λ held. Ok part ≡ part_over held base node) → os ≡ part.objects → Adds os mid new
    → Tells old (λ held. (earlier : Option Summary) → IsEarlier held base earlier → Tells new (λ now. StandsResolved now earlier node part.place.id))
stands_told law base node part os None mid new size same is own adds = tt
stands_told law base node part os (Some held) mid new size same is own adds =
    λ earlier reads.
    let content : new ≡ Some (with_all held os) = adds.content ∙ ap (option_map (λ h. with_all h os)) same in
    let kept : Keeps held (with_all held os) = subst (λ c. Tells c (λ h. Keeps h (with_all h os))) same adds.kept in
    let added : Holds (with_all held os) os = subst (λ c. Tells c (λ h. Holds (with_all h os) os)) same adds.added in
    subst (λ c. Tells c (λ now. StandsResolved now earlier node part.place.id)) (sym content)
    (law held (with_all held os) base earlier node part size is reads kept (subst (Holds (with_all held os)) own added))
