-- Nodes that were read back.
use Rattle.std.proofs.Common.{◌≡◌, inl, inr, ℕ, zero, suc, ◌+◌, ◌<◌, ◌≤◌, List, [], ◌∷◌, ◌++◌, length, map, get_or, drop, Bool, true, false, cond, not, Option, Some, None, Result, Ok, Err, refl, sym, ap, ap₂, subst, ◌∙◌, arith}
use mathlib.Core.Bool.{beq}
use Rattle.std.specs.Prelude.{option_and_then, IfOk}
use Rattle.std.specs.Result.{IsErrAnd, result_ok}
use Rattle.std.specs.FinMap.{get}
use Rattle.std.proofs.lemmas.List.{at_drop_more, at_drop_all}
use Rattle.fluid_json.specs.Unless.{IsUnless}
use Rattle.fluid_io.specs.Causes.{Tells}
use Rattle.fluid_tree.specs.Laws.{AreNamed, IsOfBytes}
use Rattle.fluid_tree.specs.Names.{first_refused}
use Rattle.fluid_tree.specs.Object.{object_bytes, tree_bytes, is_tree_object}
use Rattle.fluid_tree.specs.Reading.{object_read}
use Rattle.fluid_tree.specs.Summary.{Summary, blob, tree, Children, no_children, child, children, names, is_tree, depth, children_depth}
use Rattle.fluid_tree.specs.declared.object.Object.{Object}
use Rattle.fluid_tree.specs.declared.object.Object.TheVariants.{Blob, Tree}
use Rattle.fluid_tree.specs.declared.object.ObjectEntry.{ObjectEntry}
use Rattle.fluid_tree.specs.declared.fault.TreeFault.{TreeFault}
use Rattle.fluid_tree.specs.declared.fault.TreeFault.TheVariants.{BadName, TooDeep, BadObject as LeavesGrammar, HandleLeft, Attachment, NoMemory as Memory, BadForm}
use Rattle.fluid_store.specs.Held.{Held}
use Rattle.fluid_store.specs.Storing.{Storing}
use Rattle.fluid_store.specs.Standing.{Stands, AllStand, object_at}
use Rattle.fluid_store.specs.Keeping.{IsNoted, LookSays}
use Rattle.fluid_store.specs.Laws.{IsFetchedStanding}
use Rattle.fluid_store.specs.Fetching.{◌>>=◌, read_as, found_as, found, is_of_kind, child_by, nodes_by, tree_by, node_within, fetched, Answers}
use Rattle.fluid_store.specs.declared.fault.StoreFault.{StoreFault}
use Rattle.fluid_store.proofs.Sized.{Each, IsSized, ids_read}
use Rattle.fluid_store.specs.declared.fault.StoreFault.TheVariants.{StoreFailed, Clash, Missing, BadObject, Tree as OfTree, NoPath, NoMemory}

-- ---- what is told

pub tells_then : (told : Option Held) (P Q : Held → Type 0) → ((held : Held) → P held → Q held) → Tells told P → Tells told Q
tells_then None P Q f h = tt
tells_then (Some held) P Q f h = f held h

pub tells_both : (told : Option Held) (P Q R : Held → Type 0) → ((held : Held) → P held → Q held → R held) → Tells told P → Tells told Q → Tells told R
tells_both None P Q R f h k = tt
tells_both (Some held) P Q R f h k = f held h k

pub tells_of : (a b : Option Held) (P : Held → Type 0) → b ≡ a → Tells b P → Tells a P
tells_of a b P same h = subst (λ c. Tells c P) same h

pub tells_all : (told : Option Held) (P : Held → Type 0) → ((held : Held) → P held) → Tells told P
tells_all None P f = tt
tells_all (Some held) P f = f held

-- ---- the object under an id

pub object_found : (held : Held) (id : List ℕ) (o : Object) → Ok o ≡ found held id → object_at held id ≡ Some o
object_found held id o h = by_bytes (get held id) h
  where
    by_read : (r : Result Object TreeFault) → Ok o ≡ read_as id r → result_ok r ≡ Some o
    by_read (Ok p) e = let is : o ≡ p = cc in ap Some (sym is)
    by_read (Err fault) e = cc

    by_bytes : (bytes : Option (List ℕ)) → Ok o ≡ found_as id bytes → option_and_then (λ b. result_ok (object_read b)) bytes ≡ Some o
    by_bytes None e = cc
    by_bytes (Some bytes) e = by_read (object_read bytes) e

pub none_found : (held : Held) (id : List ℕ) (fault : StoreFault) → Err fault ≡ found held id → object_at held id ≡ None
none_found held id fault h = by_bytes (get held id) h
  where
    by_read : (r : Result Object TreeFault) → Err fault ≡ read_as id r → result_ok r ≡ None
    by_read (Ok p) e = cc
    by_read (Err f) e = refl

    by_bytes : (bytes : Option (List ℕ)) → Err fault ≡ found_as id bytes → option_and_then (λ b. result_ok (object_read b)) bytes ≡ None
    by_bytes None e = refl
    by_bytes (Some bytes) e = by_read (object_read bytes) e

-- ---- answers

module _ (old mid new : Storing) (same : mid.content ≡ old.content) (later : old.faults ≤ mid.faults) where
  noted_since : (note : _) → IsNoted mid new note → IsNoted old new note
  noted_since note n = record { before = omega (arith, later, n.before); after = n.after; rose = n.rose }

  told_since : {A : Type 0} (h f : Held → Result A StoreFault) (r : Result A StoreFault) → Tells old.content (λ held. h held ≡ f held) → Tells mid.content (λ held. r ≡ h held) → Tells old.content (λ held. r ≡ f held)
  told_since h f r carry s = tells_both old.content (λ held. h held ≡ f held) (λ held. r ≡ h held) (λ held. r ≡ f held) (λ held c k. k ∙ c) carry (tells_of old.content mid.content (λ held. r ≡ h held) same s)

  -- what was answered later is the answer of the whole
  pub goes_on : {A : Type 0} (h f : Held → Result A StoreFault) (r : Result A StoreFault) → Tells old.content (λ held. h held ≡ f held) → Answers h mid new r → Answers f old new r
  goes_on h f (Ok a) carry s = told_since h f (Ok a) carry s
  goes_on h f (Err (StoreFailed note)) carry s = noted_since note s
  goes_on h f (Err (Missing id)) carry s = told_since h f (Err (Missing id)) carry s
  goes_on h f (Err (BadObject id place)) carry s = told_since h f (Err (BadObject id place)) carry s
  goes_on h f (Err (OfTree fault)) carry s = told_since h f (Err (OfTree fault)) carry s
  goes_on h f (Err (Clash id kept bytes)) carry s = absurd s
  goes_on h f (Err (NoPath path)) carry s = absurd s
  goes_on h f (Err NoMemory) carry s = tt

  abbrev pub HandsOn : {A B : Type 0} → (Held → Result A StoreFault) → (Held → Result B StoreFault) → Held → Type 0
  HandsOn h f held = (e : StoreFault) → Err e ≡ h held → Err e ≡ f held

  told_fault : {A B : Type 0} (h : Held → Result A StoreFault) (f : Held → Result B StoreFault) (e : StoreFault) → Tells old.content (HandsOn h f) → Tells mid.content (λ held. Err e ≡ h held) → Tells old.content (λ held. Err e ≡ f held)
  told_fault h f e carry s = tells_both old.content (HandsOn h f) (λ held. Err e ≡ h held) (λ held. Err e ≡ f held) (λ held c k. c e k) carry (tells_of old.content mid.content (λ held. Err e ≡ h held) same s)

  -- a fault on the way is the answer of the whole
  pub stops : {A B : Type 0} (h : Held → Result A StoreFault) (f : Held → Result B StoreFault) (e : StoreFault) → Tells old.content (HandsOn h f) → Answers h mid new (Err e) → Answers f old new (Err e)
  stops h f (StoreFailed note) carry s = noted_since note s
  stops h f (Missing id) carry s = told_fault h f (Missing id) carry s
  stops h f (BadObject id place) carry s = told_fault h f (BadObject id place) carry s
  stops h f (OfTree fault) carry s = told_fault h f (OfTree fault) carry s
  stops h f (Clash id kept bytes) carry s = absurd s
  stops h f (NoPath path) carry s = absurd s
  stops h f NoMemory carry s = tt

pub handed : {A : Type 0} (f : Held → Result A StoreFault) (old new : Storing) (r : Result A StoreFault) (e : StoreFault) → IsErrAnd r (λ x. x ≡ e) → Answers f old new (Err e) → Answers f old new r
handed f old new (Ok a) e h s = absurd h
handed f old new (Err x) e h s = subst (λ y. Answers f old new (Err y)) (sym h) s

-- ---- an entry

pub of_kind : (a b : Bool) (o : Object) → a ≡ is_tree_object o → not (beq a b) ≡ false → is_of_kind b o ≡ true
of_kind true true o is h = sym is
of_kind true false o is h = cc
of_kind false true o is h = cc
of_kind false false o is h = ap not (sym is)

-- ---- the entries of a tree, one after the other

-- these nodes, and then those
abbrev pub onto : List (List ℕ × Summary) → Children → Children
onto [] ds = ds
onto (c ∷ cs) ds = child c.0 c.1 (onto cs ds)

onto_more : (cs : List (List ℕ × Summary)) (n : List ℕ) (s : Summary) (ds : Children) → onto cs (child n s ds) ≡ onto (cs ++ (n, s) ∷ []) ds
onto_more [] n s ds = refl
onto_more (c ∷ cs) n s ds = ap (child c.0 c.1) (onto_more cs n s ds)

onto_none : (cs : List (List ℕ × Summary)) → onto cs no_children ≡ children cs
onto_none [] = refl
onto_none (c ∷ cs) = ap (child c.0 c.1) (onto_none cs)

abbrev pub Reader : Type 0
Reader = ObjectEntry → Result Summary StoreFault

-- the nodes so far, and then those of the entries left, are those of all
abbrev pub Goes : Reader → List ObjectEntry → ℕ → List (List ℕ × Summary) → Type 0
Goes node es i done = nodes_by node es ≡ (nodes_by node (drop i es) >>= λ rest. Ok (onto done rest))

again : {A : Type 0} (r : Result A StoreFault) → r ≡ (r >>= λ a. Ok a)
again (Ok a) = refl
again (Err e) = refl

pub goes_start : (content : Option Held) (node : Held → Reader) (es : List ObjectEntry) (nodes : List (List ℕ × Summary)) → nodes ≡ [] → Tells content (λ held. Goes (node held) es 0 nodes)
goes_start content node es nodes none = subst (λ ns. Tells content (λ held. Goes (node held) es 0 ns)) (sym none) (tells_all content (λ held. Goes (node held) es 0 []) (λ held. again (nodes_by (node held) es)))

module _ (node : Reader) (es : List ObjectEntry) (i : ℕ) (e : ObjectEntry) (done : List (List ℕ × Summary)) (lt : i < length es) (is : e ≡ get_or es i e) (inv : Goes node es i done) where
  at : nodes_by node (drop i es) ≡ nodes_by node (e ∷ drop (i + 1) es)
  at = at_drop_more (nodes_by node) es i e lt ∙ ap (λ f. nodes_by node (f ∷ drop (i + 1) es)) (sym is)

  pub entry_fails : (fault : StoreFault) → Err fault ≡ node e → Err fault ≡ tree_by node es
  entry_fails fault h =
      sym (ap (λ r. r >>= λ cs. Ok (tree cs)) (inv ∙ ap (λ r. r >>= λ rest. Ok (onto done rest)) (at ∙ ap (λ r. r >>= λ s. nodes_by node (drop (i + 1) es) >>= λ cs. Ok (child e.name s cs)) (sym h))))

  behind : (r : Result Children StoreFault) (s : Summary) → ((r >>= λ cs. Ok (child e.name s cs)) >>= λ rest. Ok (onto done rest)) ≡ (r >>= λ rest. Ok (onto (done ++ (e.name, s) ∷ []) rest))
  behind (Ok cs) s = ap Ok (onto_more done e.name s cs)
  behind (Err f) s = refl

  pub entry_goes : (s : Summary) → Ok s ≡ node e → Goes node es (i + 1) (done ++ (e.name, s) ∷ [])
  entry_goes s h =
      inv ∙ ap (λ r. r >>= λ rest. Ok (onto done rest)) (at ∙ ap (λ r. r >>= λ t. nodes_by node (drop (i + 1) es) >>= λ cs. Ok (child e.name t cs)) (sym h)) ∙ behind (nodes_by node (drop (i + 1) es)) s

pub entry_more : (content : Option Held) (node : Held → Reader) (es : List ObjectEntry) (i : ℕ) (e : ObjectEntry) (done more : List (List ℕ × Summary)) (name : List ℕ) (s : Summary)
    → i < length es → e ≡ get_or es i e → name ≡ e.name → more ≡ done ++ (name, s) ∷ [] → Tells content (λ held. Goes (node held) es i done) → Tells content (λ held. Ok s ≡ node held e)
    → Tells content (λ held. Goes (node held) es (i + 1) more)
entry_more content node es i e done more name s lt is named grown inv one =
    let list : more ≡ done ++ (e.name, s) ∷ [] = grown ∙ ap (λ x. done ++ (x, s) ∷ []) named in
    subst (λ ns. Tells content (λ held. Goes (node held) es (i + 1) ns)) (sym list)
    (tells_both content (λ held. Goes (node held) es i done) (λ held. Ok s ≡ node held e) (λ held. Goes (node held) es (i + 1) (done ++ (e.name, s) ∷ [])) (λ held h k. entry_goes (node held) es i e done lt is h s k) inv one)

pub entries_end : (node : Reader) (es : List ObjectEntry) (i : ℕ) (done : List (List ℕ × Summary)) → length es ≤ i → Goes node es i done → Ok (tree (children done)) ≡ tree_by node es
entries_end node es i done le inv =
    sym (ap (λ r. r >>= λ cs. Ok (tree cs)) (inv ∙ ap (λ r. r >>= λ rest. Ok (onto done rest)) (at_drop_all (nodes_by node) es i le)) ∙ ap (λ cs. Ok (tree cs)) (onto_none done))

pub blob_within : (held : Held) (levels : ℕ) (content : List ℕ) → Ok (blob content) ≡ node_within held levels (Blob content)
unfolding node_within
blob_within held zero content = refl
blob_within held (suc n) content = refl

pub tree_too_deep : (held : Held) (levels : ℕ) (entries : List ObjectEntry) → levels ≡ 0 → Err (OfTree TooDeep) ≡ node_within held levels (Tree entries)
unfolding node_within
tree_too_deep held zero entries none = refl
tree_too_deep held (suc n) entries none = absurd (omega (arith, none))

pub tree_within : (held : Held) (levels n : ℕ) (entries : List ObjectEntry) → levels ≡ suc n → tree_by (child_by held (node_within held n)) entries ≡ node_within held levels (Tree entries)
unfolding node_within
tree_within held zero n entries some = absurd (omega (arith, some))
tree_within held (suc m) n entries some = let is : n ≡ m = omega (arith, some) in ap (λ k. tree_by (child_by held (node_within held k)) entries) is

-- ---- what was read stands

of_bytes : IsOfBytes → (bytes : Option (List ℕ)) (o : Object) → option_and_then (λ b. result_ok (object_read b)) bytes ≡ Some o → bytes ≡ Some (object_bytes o)
of_bytes law None o h = cc
of_bytes law (Some bytes) o h = by_read (object_read bytes) refl h
  where
    by_read : (r : Result Object _) → object_read bytes ≡ r → result_ok r ≡ Some o → Some bytes ≡ Some (object_bytes o)
    by_read (Ok p) e same = let is : p ≡ o = cc in sym (ap Some (law bytes o (e ∙ ap Ok is)))
    by_read (Err fault) e same = cc

bytes_held : IsOfBytes → (held : Held) (id : List ℕ) (o : Object) → object_at held id ≡ Some o → get held id ≡ Some (object_bytes o)
bytes_held law held id o h = of_bytes law (get held id) o h

tree_held : IsOfBytes → (held : Held) (id : List ℕ) (entries : List ObjectEntry) → object_at held id ≡ Some (Tree entries) → get held id ≡ Some (tree_bytes entries)
unfolding object_bytes
tree_held law held id entries h = bytes_held law held id (Tree entries) h

-- the nodes that stand have the names of the entries
names_stand : (held : Held) (entries : List ObjectEntry) (cs : Children) → AllStand held entries cs → map (λ e. e.name) entries ≡ names cs
names_stand held [] no_children h = refl
names_stand held [] (child n s cs) h = absurd h
names_stand held (e ∷ entries) no_children h = absurd h
names_stand held (e ∷ entries) (child n s cs) h = ap₂ (λ x l. x ∷ l) h.0 (names_stand held entries cs h.1.1.1.1)

-- the names of a tree that is held are names
named : AreNamed → (held : Held) (id : List ℕ) (entries : List ObjectEntry) → object_at held id ≡ Some (Tree entries) → first_refused [] (map (λ e. e.name) entries) ≡ None
named law held id entries h = by_found (get held id) h
  where
    by_read : (bytes : List ℕ) (r : Result Object _) → object_read bytes ≡ r → result_ok r ≡ Some (Tree entries) → first_refused [] (map (λ e. e.name) entries) ≡ None
    by_read bytes (Ok p) e same = let is : p ≡ Tree entries = cc in law bytes entries (e ∙ ap Ok is)
    by_read bytes (Err fault) e same = cc

    by_found : (bytes : Option (List ℕ)) → option_and_then (λ b. result_ok (object_read b)) bytes ≡ Some (Tree entries) → first_refused [] (map (λ e. e.name) entries) ≡ None
    by_found None h = cc
    by_found (Some bytes) h = by_read bytes (object_read bytes) refl h

-- the entries of a tree that is held have ids of 20 bytes
pub sized : (held : Held) (id : List ℕ) (entries : List ObjectEntry) → object_at held id ≡ Some (Tree entries) → Each IsSized entries
sized held id entries h = by_found (get held id) h
  where
    by_read : (bytes : List ℕ) (r : Result Object _) → object_read bytes ≡ r → result_ok r ≡ Some (Tree entries) → Each IsSized entries
    by_read bytes (Ok p) e same = let is : p ≡ Tree entries = cc in ids_read bytes entries (e ∙ ap Ok is)
    by_read bytes (Err fault) e same = cc

    by_found : (bytes : Option (List ℕ)) → option_and_then (λ b. result_ok (object_read b)) bytes ≡ Some (Tree entries) → Each IsSized entries
    by_found None h = cc
    by_found (Some bytes) h = by_read bytes (object_read bytes) refl h

pub bind_ok : {A B : Type 0} (r : Result A StoreFault) (f : A → Result B StoreFault) (b : B) → Ok b ≡ (r >>= f) → (a : A) × ((Ok a ≡ r) × (Ok b ≡ f a))
bind_ok (Ok a) f b h = (a, (refl, h))
bind_ok (Err e) f b h = cc

pub kind_by : (c : Bool) (x : Result Summary StoreFault) (e : StoreFault) (s : Summary) → Ok s ≡ cond c x (Err e) → (c ≡ true) × (Ok s ≡ x)
kind_by true x e s h = (refl, h)
kind_by false x e s h = cc

kind_is : (b : Bool) (o : Object) (s : Summary) → is_of_kind b o ≡ true → is_tree s ≡ is_tree_object o → b ≡ is_tree s
kind_is true o s h k = sym (k ∙ h)
kind_is false (Blob content) s h k = sym k
kind_is false (Tree entries) s h k = cc

module _ (law : IsOfBytes) (named_law : AreNamed) (held : Held) where
  -- what a node that was read of an object under an id is
  abbrev pub Good : ℕ → List ℕ → Object → Summary → Type 0
  Good levels id o s = (Stands held id s × (depth s ≤ levels)) × (is_tree s ≡ is_tree_object o)

  abbrev pub IsGood : ℕ → Type 0
  IsGood levels = (id : List ℕ) (o : Object) (s : Summary) → object_at held id ≡ Some o → Ok s ≡ node_within held levels o → Good levels id o s

  all_good : (n : ℕ) → IsGood n → (entries : List ObjectEntry) (cs : Children) → Each IsSized entries → Ok cs ≡ nodes_by (child_by held (node_within held n)) entries → AllStand held entries cs × (children_depth cs ≤ n)
  all_good n good [] cs known h = let is : no_children ≡ cs = cc in subst (λ ds. AllStand held [] ds × (children_depth ds ≤ n)) is (tt, omega arith)
  all_good n good (e ∷ entries) cs known h =
      let first = bind_ok (child_by held (node_within held n) e) _ cs h in
      let more = bind_ok (nodes_by (child_by held (node_within held n)) entries) _ cs first.1.1 in
      let s = first.0 in
      let is : child e.name s more.0 ≡ cs = let k = more.1.1 in cc in
      let at = bind_ok (found held e.id) _ s first.1.0 in
      let kind = kind_by (is_of_kind e.tree at.0) (node_within held n at.0) (BadObject e.id 0) s at.1.1 in
      let one = good e.id at.0 s (object_found held e.id at.0 at.1.0) kind.1 in
      let rest = all_good n good entries more.0 known.1 more.1.0 in
      subst (λ ds. AllStand held (e ∷ entries) ds × (children_depth ds ≤ n)) is ((refl, (kind_is e.tree at.0 s kind.0 one.1, (known.0, (one.0.0, rest.0)))), omega (arith, one.0.1, rest.1))

  good_blob : (levels : ℕ) (id content : List ℕ) (s : Summary) → object_at held id ≡ Some (Blob content) → Ok s ≡ node_within held levels (Blob content) → Good levels id (Blob content) s
  good_blob levels id content s here h =
      let is : blob content ≡ s = let k = h ∙ sym (blob_within held levels content) in cc in
      subst (λ t. Good levels id (Blob content) t) is ((bytes_held law held id (Blob content) here, omega arith), refl)

  good_tree : (n : ℕ) → IsGood n → (id : List ℕ) (entries : List ObjectEntry) (s : Summary) → object_at held id ≡ Some (Tree entries) → Ok s ≡ node_within held (suc n) (Tree entries) → Good (suc n) id (Tree entries) s
  good_tree n good id entries s here h =
      let by = bind_ok (nodes_by (child_by held (node_within held n)) entries) (λ cs. Ok (tree cs)) s (h ∙ sym (tree_within held (suc n) n entries refl)) in
      let is : tree by.0 ≡ s = let k = by.1.1 in cc in
      let all = all_good n good entries by.0 (sized held id entries here) by.1.0 in
      let names_good = sym (ap (first_refused []) (names_stand held entries by.0 all.0)) ∙ named named_law held id entries here in
      subst (λ t. Good (suc n) id (Tree entries) t) is (((names_good, (entries, (tree_held law held id entries here, all.0))), omega (arith, all.1)), refl)

  no_tree : (id : List ℕ) (entries : List ObjectEntry) (s : Summary) → Ok s ≡ node_within held zero (Tree entries) → Good zero id (Tree entries) s
  no_tree id entries s h = let k = h ∙ sym (tree_too_deep held zero entries refl) in cc

  pub good : (levels : ℕ) → IsGood levels
  good levels id (Blob content) s here h = good_blob levels id content s here h
  good zero id (Tree entries) s here h = no_tree id entries s h
  good (suc n) id (Tree entries) s here h = good_tree n (good n) id entries s here h

  pub fetched_stands : (levels : ℕ) (id : List ℕ) (s : Summary) → Ok s ≡ fetched held levels id → Stands held id s × (depth s ≤ levels)
  fetched_stands levels id s h =
      let at = bind_ok (found held id) (node_within held levels) s h in
      (good levels id at.0 s (object_found held id at.0 at.1.0) at.1.1).0

pub read_stands : IsFetchedStanding → (id : List ℕ) (old new : Storing) (r : Result Summary StoreFault) → Answers (λ held. fetched held 32 id) old new r
    → IfOk r (λ node. Tells old.content (λ held. Stands held id node × (depth node ≤ 32)))
read_stands law id old new (Ok s) h = tells_then old.content (λ held. Ok s ≡ fetched held 32 id) (λ held. Stands held id s × (depth s ≤ 32)) (λ held k. law held 32 id s k) h
read_stands law id old new (Err e) h = tt

pub found_then : (content : Option Held) (levels : ℕ) (id : List ℕ) (o : Object) → Tells content (λ held. Ok o ≡ found held id) → Tells content (λ held. node_within held levels o ≡ fetched held levels id)
found_then content levels id o h =
    tells_then content (λ held. Ok o ≡ found held id) (λ held. node_within held levels o ≡ fetched held levels id) (λ held k. ap (λ x. x >>= node_within held levels) k) h
