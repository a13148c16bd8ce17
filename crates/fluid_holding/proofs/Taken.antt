-- The tree that a container uploads isn't refused by what is held.
use Rattle.std.proofs.Common.{◌≡◌, ◌⊎◌, inl, inr, ℕ, suc, ◌==◌, Bool, true, false, cond, ◌||◌, if◌then◌else◌, T, List, [], ◌∷◌, map, fold, Option, Some, None, is_some, Result, Ok, Err, bytes_eq, codes, refl, sym, ap, subst, ◌∙◌}
use Rattle.std.specs.List.{AllByRecursion, list_all, list_any}
use Rattle.std.specs.Option.{unwrap_or}
use Rattle.std.specs.Ordering.{is_eq}
use Rattle.std.specs.FinMap.{empty, entries, entries_sorted, get, insert}
use Rattle.std.specs.FinMap.Entries.{below_all, is_sorted}
use Rattle.std.proofs.lemmas.Bool.{and_parts, eqb-true}
use Rattle.std.proofs.lemmas.Map.Text.{is_eq-slice_cmp}
use Rattle.std.proofs.lemmas.Slice.Eq.{bytes_eq-Decides}
use Rattle.fluid_table.specs.Table.{Values, byte_order}
use Rattle.fluid_table.proofs.Ordered.{first, second, less}
use Rattle.fluid_table.proofs.Places.{get_inserted}
use Rattle.fluid_tree.specs.Object.{is_tree_object}
use Rattle.fluid_tree.specs.Names.{first_refused, is_bad, is_refused}
use Rattle.fluid_tree.specs.Summary.{Summary, blob, tree, handle, Children, no_children, child, children, names}
use Rattle.fluid_tree.specs.declared.object.Object.{Object}
use Rattle.fluid_tree.specs.declared.object.Object.TheVariants.{Blob, Tree}
use Rattle.fluid_tree.specs.declared.object.ObjectEntry.{ObjectEntry}
use Rattle.fluid_types.specs.Names.{IsName, is_name, is_name_byte}
use Rattle.fluid_edits.specs.Forms.{kind_word}
use Rattle.fluid_edits.specs.Replay.{Channel, Channels, kind_of}
use Rattle.fluid_readback.proofs.Each.{each-all}
use Rattle.fluid_runtime.specs.AppTree.{app_tree, channel_node, content_of, node_since, tree_since}
use Rattle.fluid_runtime.specs.Laws.{Pairs, IsNamed, IsWholeUnmarked, tree_in_order}
use Rattle.fluid_runtime.proofs.Nodes.{found_there}
use Rattle.fluid_store.specs.Held.{Held}
use Rattle.fluid_store.specs.Fetching.{◌>>=◌, child_by, fetched, found, node_within, nodes_by}
use Rattle.fluid_store.specs.Following.{AnEarlier, at_end, earlier_at, onward, place_of, places_in, places_of}
use Rattle.fluid_store.specs.Parts.{Leads, Named, blob_part, leads_in, part_or, part_over, part_within, parts_within, place_part, tree_part, unrefused, objects_over}
use Rattle.fluid_store.specs.declared.fault.StoreFault.{StoreFault}
use Rattle.fluid_loader.specs.Laws.{AreNamed, IsBasedOn, IsSinceTree}
use Rattle.fluid_loader.proofs.Fetched.{of_blob, of_tree}
use Rattle.fluid_holding.specs.Laws.{BasedTreesAreTaken, IsTaken}

-- ---- names

apart : false ≡ true → ⊥
apart same = cc

plain_byte : (b : ℕ) → is_name_byte b ≡ true → (b == 47 || b == 0) ≡ false
plain_byte b name = by (b == 47) (b == 0) refl refl
  where
    by : (p q : Bool) → (b == 47) ≡ p → (b == 0) ≡ q → (p || q) ≡ false
    by true q is other = absurd (apart (subst (λ n. is_name_byte n ≡ true) (eqb-true b 47 is) name))
    by false true is other = absurd (apart (subst (λ n. is_name_byte n ≡ true) (eqb-true b 0 other) name))
    by false false is other = refl

plain_bytes : (bs : List ℕ) → list_all is_name_byte bs ≡ true → list_any (λ x. x == 47 || x == 0) bs ≡ false
plain_bytes [] all = refl
plain_bytes (b ∷ bs) all = let parts = and_parts (is_name_byte b) (list_all is_name_byte bs) all in λ i. plain_byte b parts.0 i || plain_bytes bs parts.1 i

is_other : (name other : List ℕ) → IsName name → (IsName other → ⊥) → bytes_eq name other ≡ false
is_other name other named isnt = by (bytes_eq name other) refl
  where
    by : (b : Bool) → bytes_eq name other ≡ b → b ≡ false
    by true is = absurd (isnt (subst IsName ((bytes_eq-Decides name other).0 is) named))
    by false is = refl

none_named : IsName [] → ⊥
unfolding is_name
none_named named = apart named

dot_named : IsName (codes ".") → ⊥
unfolding is_name
dot_named named = apart named

dots_named : IsName (codes "..") → ⊥
unfolding is_name
dots_named named = apart named

all_of : (name : List ℕ) → IsName name → list_all is_name_byte name ≡ true
unfolding is_name
all_of name named = (and_parts _ _ named).1

good_name : (name : List ℕ) → IsName name → is_bad name ≡ false
good_name name named =
    λ i. is_other name [] named none_named i || is_other name (codes ".") named dot_named i || is_other name (codes "..") named dots_named i || plain_bytes name (all_of name named) i

-- names of channels of which none stands among others
abbrev Fresh : List (List ℕ) → Pairs → Type 0
Fresh before es = AllByRecursion (λ e. list_any (λ one. bytes_eq one e.0) before ≡ false) es

fresh_more : (key : List ℕ) (before : List (List ℕ)) (es : Pairs) → T (below_all byte_order key es) → Fresh before es → Fresh (key ∷ before) es
fresh_more key before [] below fresh = tt
fresh_more key before (e ∷ es) below fresh =
    let differs : bytes_eq key e.0 ≡ false = sym (is_eq-slice_cmp key e.0) ∙ ap is_eq (less (byte_order key e.0) (first _ _ below)) in
    (λ i. differs i || fresh.0 i, fresh_more key before es (second _ _ below) fresh.1)

names_taken : (f : List ℕ × Channel → Summary) (before : List (List ℕ)) (es : Pairs) → AllByRecursion (λ e. IsName e.0) es → T (is_sorted byte_order es) → Fresh before es
    → first_refused before (names (children (map (λ e. (e.0, f e)) es))) ≡ None
unfolding first_refused
names_taken f before [] named sorted fresh = refl
names_taken f before (e ∷ es) named sorted fresh =
    let good : is_refused before e.0 ≡ false = λ i. good_name e.0 named.0 i || fresh.0 i in
    ap (λ b. if b then Some e.0 else first_refused (e.0 ∷ before) (names (children (map (λ e. (e.0, f e)) es)))) good
    ∙ names_taken f (e.0 ∷ before) es named.1 (second _ _ sorted) (fresh_more e.0 before es (first _ _ sorted) fresh.1)

none_before : (es : Pairs) → Fresh [] es
none_before [] = tt
none_before (e ∷ es) = (refl, none_before es)

-- ---- parts

-- there is an answer
record HasOk {P : Type 0} (r : Result P StoreFault) : Type 0 where
  value : P
  is : r ≡ Ok value

channel_part : (leads : Leads) (n : ℕ) (channel : Channel) → HasOk (part_within leads (suc n) (channel_node channel))
unfolding part_within parts_within first_refused
channel_part leads n channel =
    record { value = tree_part ((codes "content", blob_part (content_of channel)) ∷ (codes "kind", blob_part (kind_word (kind_of channel))) ∷ []); is = refl }

handle_part : (leads : Leads) (n : ℕ) (path : List (List ℕ)) → HasOk (leads path) → HasOk (part_within leads (suc n) (handle path))
unfolding part_within
handle_part leads n path there = there

all_parts : (leads : Leads) (n : ℕ) (f : List ℕ × Channel → Summary) (es : Pairs) → AllByRecursion (λ e. HasOk (part_within leads n (f e))) es
    → HasOk (parts_within leads n (children (map (λ e. (e.0, f e)) es)))
unfolding parts_within
all_parts leads n f [] each = record { value = []; is = refl }
all_parts leads n f (e ∷ es) each =
    let more = all_parts leads n f es each.1 in
    record {
      value = (e.0, each.0.value) ∷ more.value;
      is =
          ap (λ r. r >>= λ part. parts_within leads n (children (map (λ e. (e.0, f e)) es)) >>= λ parts. Ok ((e.0, part) ∷ parts)) each.0.is
          ∙ ap (λ r. r >>= λ parts. Ok ((e.0, each.0.value) ∷ parts)) more.is;
    }

pub tree_is : (leads : Leads) (n : ℕ) (nodes : Children) (parts : Named) → first_refused [] (names nodes) ≡ None → parts_within leads n nodes ≡ Ok parts
    → part_within leads (suc n) (tree nodes) ≡ Ok (tree_part parts)
unfolding part_within
tree_is leads n nodes parts none all =
    ap (λ f. unrefused f >>= λ ok. parts_within leads n nodes >>= λ parts. Ok (tree_part parts)) none ∙ ap (λ r. r >>= λ parts. Ok (tree_part parts)) all

-- ---- the names of a tree that is read

abbrev pub Has : List ℕ → List (List ℕ) → Type 0
Has at [] = ⊥
Has at (n ∷ ns) = (n ≡ at) ⊎ Has at ns

pub pairs_have : (at : List ℕ) (pairs : Pairs) → IsNamed at pairs → Has at (names (children (map (λ e. (e.0, channel_node e.1)) pairs)))
pairs_have at [] named = named
pairs_have at (e ∷ es) (inl own) = inl own
pairs_have at (e ∷ es) (inr later) = inr (pairs_have at es later)

pub ok_same : {A : Type 0} (a b : A) → ◌≡◌ {A = Result A StoreFault} (Ok a) (Ok b) → a ≡ b
ok_same a b same = cc

pub no_ok : {A : Type 0} (fault : StoreFault) (a : A) → ◌≡◌ {A = Result A StoreFault} (Err fault) (Ok a) → ⊥
no_ok fault a same = cc

tree_same : (a b : Children) → tree a ≡ tree b → a ≡ b
tree_same a b same = cc

no_tree : (content : List ℕ) (nodes : Children) → blob content ≡ tree nodes → ⊥
no_tree content nodes same = cc

nodes_named : (node : ObjectEntry → Result Summary StoreFault) (es : List ObjectEntry) (nodes : Children) → nodes_by node es ≡ Ok nodes → names nodes ≡ map (λ e. e.name) es
nodes_named node [] nodes is = ap names (sym (ok_same no_children nodes is))
nodes_named node (e ∷ es) nodes is = by_node (λ cs rest. nodes_named node es cs rest) (node e) (nodes_by node es) refl is
  where
    by_node : ((cs : Children) → nodes_by node es ≡ Ok cs → names cs ≡ map (λ x. x.name) es) → (one : Result Summary StoreFault) (more : Result Children StoreFault) → nodes_by node es ≡ more → (one >>= λ s. more >>= λ cs. Ok (child e.name s cs)) ≡ Ok nodes
        → names nodes ≡ e.name ∷ map (λ x. x.name) es
    by_node again (Err fault) more rest so = absurd (no_ok fault nodes so)
    by_node again (Ok s) (Err fault) rest so = absurd (no_ok fault nodes so)
    by_node again (Ok s) (Ok cs) rest so = ap names (sym (ok_same (child e.name s cs) nodes so)) ∙ ap (λ ns. e.name ∷ ns) (again cs rest)

-- ---- the places of an object's names

some_of : {P : Type 0} (o : Option P) → is_some o ≡ true → (p : P) × (o ≡ Some p)
some_of None is = absurd (apart is)
some_of (Some p) is = (p, refl)

-- the first entry of each name, by what is made of it
abbrev pub first_with : {P : Type 0} → (ObjectEntry → P) → Values P → ObjectEntry → Values P
first_with made places e = if is_some (get places e.name) then places else insert places e.name (made e)

module _ {P : Type 0} (made : ObjectEntry → P) (at : List ℕ) where
  abbrev IsThere : Values P → Type 0
  IsThere places = is_some (get places at) ≡ true

  one_more : (acc : Values P) (e : ObjectEntry) → IsThere acc ⊎ (e.name ≡ at) → IsThere (first_with made acc e)
  one_more acc e there = by (get acc e.name) refl
    where
      inserted : (b : Bool) → bytes_eq at e.name ≡ b → IsThere acc ⊎ (e.name ≡ at) → is_some (cond b (Some (made e)) (get acc at)) ≡ true
      inserted true is h = refl
      inserted false is (inl before) = before
      inserted false is (inr own) = absurd (apart (sym is ∙ (bytes_eq-Decides at e.name).1 (sym own)))

      kept : (p : P) → get acc e.name ≡ Some p → IsThere acc ⊎ (e.name ≡ at) → IsThere acc
      kept p is (inl before) = before
      kept p is (inr own) = ap is_some (ap (get acc) (sym own) ∙ is)

      by : (o : Option P) → get acc e.name ≡ o → IsThere (if is_some o then acc else insert acc e.name (made e))
      by None is = subst (λ o. is_some o ≡ true) (sym (get_inserted acc e.name (made e) at)) (inserted (bytes_eq at e.name) refl there)
      by (Some p) is = kept p is there

  behind : (es : List ObjectEntry) (acc : Values P) → IsThere acc ⊎ Has at (map (λ e. e.name) es) → IsThere (fold (first_with made) acc es)
  behind [] acc (inl before) = before
  behind [] acc (inr none) = absurd none
  behind (e ∷ es) acc (inl before) = behind es (first_with made acc e) (inl (one_more acc e (inl before)))
  behind (e ∷ es) acc (inr (inl own)) = behind es (first_with made acc e) (inl (one_more acc e (inr own)))
  behind (e ∷ es) acc (inr (inr later)) = behind es (first_with made acc e) (inr later)

-- ---- an earlier tree

module _ (held : Held) (base : List ℕ) (pairs : Pairs) (reads : fetched held 32 base ≡ Ok (tree_in_order pairs)) where
  abbrev nodes : Children
  nodes = children (map (λ e. (e.0, channel_node e.1)) pairs)

  -- its entries, whose nodes are read
  pub record IsRoot : Type 0 where
    pub es : List ObjectEntry
    pub is : found held base ≡ Ok (Tree es)
    pub nodes_are : nodes_by (child_by held (node_within held 31)) es ≡ Ok nodes

  of_entries : (es : List ObjectEntry) → found held base ≡ Ok (Tree es) → (r : Result Children StoreFault) → nodes_by (child_by held (node_within held 31)) es ≡ r → (r >>= λ cs. Ok (tree cs)) ≡ Ok (tree nodes) → IsRoot
  of_entries es there (Err fault) is so = absurd (no_ok fault (tree nodes) so)
  of_entries es there (Ok cs) is so = record { es = es; is = there; nodes_are = is ∙ ap Ok (tree_same cs nodes (ok_same (tree cs) (tree nodes) so)) }

  pub root : IsRoot
  root = by (found held base) refl reads
    where
      by : (r : Result Object StoreFault) → found held base ≡ r → (r >>= node_within held 32) ≡ Ok (tree nodes) → IsRoot
      by (Err fault) there so = absurd (no_ok fault (tree nodes) so)
      by (Ok (Blob content)) there so = absurd (no_tree content nodes (ok_same (blob content) (tree nodes) (sym (of_blob held 32 content) ∙ so)))
      by (Ok (Tree es)) there so = of_entries es there (nodes_by (child_by held (node_within held 31)) es) refl (sym (of_tree held 31 es) ∙ so)

  pub has_name : (at : List ℕ) → IsNamed at pairs → Has at (map (λ e. e.name) root.es)
  has_name at named = subst (Has at) (nodes_named (child_by held (node_within held 31)) root.es nodes root.nodes_are) (pairs_have at pairs named)

  pub has_place : (at : List ℕ) → IsNamed at pairs → is_some (get (places_of root.es) at) ≡ true
  has_place at named = behind place_of at root.es empty (inr (has_name at named))

  abbrev pub earlier : AnEarlier
  earlier = record { own = record { tree = true; id = base }; places = places_of root.es }

  pub earlier_is : earlier_at held base ≡ Ok earlier
  earlier_is = ap (λ r. r >>= λ object. Ok (record { own = record { tree = is_tree_object object; id = base }; places = places_in object })) root.is

  led : (at : List ℕ) → IsNamed at pairs → HasOk (leads_in held (Some earlier) (at ∷ []))
  led at named = let there = some_of (get (places_of root.es) at) (has_place at named) in record { value = place_part there.0; is = ap (λ o. onward (at_end held []) o >>= part_or (at ∷ [])) there.1 }

-- ---- the whole tree

pub each_found : (channels : Channels) → AllByRecursion (λ c. get channels c.0 ≡ Some c.1) (entries channels)
each_found channels = each-all (λ c. get channels c.0 ≡ Some c.1) (entries channels) (λ k d within. found_there channels k d within)

module _ (channels : Channels) (named : AreNamed channels) where
  pub each_so : (P : List ℕ × Channel → Type 0) → ((e : List ℕ × Channel) → get channels e.0 ≡ Some e.1 → P e) → (es : Pairs) → AllByRecursion (λ c. get channels c.0 ≡ Some c.1) es → AllByRecursion P es
  each_so P f [] all = tt
  each_so P f (e ∷ es) all = (f e all.0, each_so P f es all.1)

  pub names_good : (f : List ℕ × Channel → Summary) → first_refused [] (names (children (map (λ e. (e.0, f e)) (entries channels)))) ≡ None
  names_good f =
      names_taken f [] (entries channels) (each_so (λ e. IsName e.0) (λ e is. named e.0 e.1 is) (entries channels) (each_found channels)) (entries_sorted channels) (none_before (entries channels))

  taken_with : (leads : Leads) (f : List ℕ × Channel → Summary) → ((e : List ℕ × Channel) → get channels e.0 ≡ Some e.1 → HasOk (part_within leads 31 (f e)))
      → HasOk (part_within leads 32 (tree (children (map (λ e. (e.0, f e)) (entries channels)))))
  taken_with leads f each =
      let all = all_parts leads 31 f (entries channels) (each_so (λ e. HasOk (part_within leads 31 (f e))) each (entries channels) (each_found channels)) in
      record { value = tree_part all.value; is = tree_is leads 31 (children (map (λ e. (e.0, f e)) (entries channels))) all.value (names_good f) all.is }

  whole_taken : (leads : Leads) → HasOk (part_within leads 32 (app_tree channels))
  whole_taken leads = taken_with leads (λ e. channel_node e.1) (λ e is. channel_part leads 30 e.1)

  module _ (held : Held) (base : List ℕ) (changed : Values Bool) (since : IsSinceTree held base channels changed) where
    abbrev leads : Leads
    leads = leads_in held (Some (earlier held base since.pairs since.reads))

    node_taken : (e : List ℕ × Channel) → get channels e.0 ≡ Some e.1 → HasOk (part_within leads 31 (node_since changed e.0 e.1))
    node_taken e is = by (get changed e.0) refl
      where
        by : (o : Option Bool) → get changed e.0 ≡ o → HasOk (part_within leads 31 (if unwrap_or o true then channel_node e.1 else handle (e.0 ∷ [])))
        by None said = channel_part leads 30 e.1
        by (Some true) said = channel_part leads 30 e.1
        by (Some false) said = handle_part leads 30 (e.0 ∷ []) (led held base since.pairs since.reads e.0 (since.are.all e.0 e.1 (since.since e.0 said ∙ is)))

    since_taken : HasOk (part_over held (Some base) (tree_since changed channels))
    since_taken =
        let there = taken_with leads (λ e. node_since changed e.0 e.1) node_taken in
        record {
          value = there.value;
          is =
              ap (λ r. (r >>= λ earlier. Ok (Some earlier)) >>= λ earlier. part_within (leads_in held earlier) 32 (tree_since changed channels)) (earlier_is held base since.pairs since.reads)
              ∙ there.is;
        }

taken_of : (held : Held) (base : Option (List ℕ)) (node : Summary) → HasOk (part_over held base node) → IsTaken (objects_over held base node)
taken_of held base node there = subst (λ x. IsTaken (x >>= λ part. Ok (part.place.id, part.objects))) (sym there.is) tt

module _ (unmarked : IsWholeUnmarked) where
  taken_on : (held : Held) (base : Option (List ℕ)) (channels : Channels) (changed : Values Bool) → AreNamed channels → IsBasedOn held base channels changed → HasOk (part_over held base (tree_since changed channels))
  taken_on held None channels changed named based =
      subst (λ node. HasOk (part_within (leads_in held None) 32 node)) (sym (unmarked channels changed based)) (whole_taken channels named (leads_in held None))
  taken_on held (Some base) channels changed named based = since_taken channels named held base changed based

  pub based_trees_are_taken : BasedTreesAreTaken
  based_trees_are_taken held c based = taken_of held c.base (tree_since c.changed c.channels) (taken_on held c.base c.channels c.changed based.named based.on)
