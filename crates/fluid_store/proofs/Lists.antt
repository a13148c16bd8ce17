-- The parts of a tree's nodes, one after the other.
use Rattle.std.proofs.Common.{◌≡◌, ◌≢◌, ◌⊎◌, ℕ, zero, suc, ◌+◌, ◌<◌, ◌≤◌, inl, inr, List, [], ◌∷◌, ◌++◌, length, get_or, drop, map, Option, Some, None, Result, Ok, Err, String, Global, string_bytes, string_cmp, refl, sym, ap, subst, ◌∙◌, arith, append_assoc, append-nil}
use Rattle.std.specs.Prelude.{IfOk, option_map}
use Rattle.std.specs.Option.{unwrap_or}
use Rattle.std.specs.Result.{IsErrAnd}
use Rattle.std.proofs.lemmas.List.{at_drop_more, at_drop_all}
use Rattle.std.specs.BTreeMap.{insert_entry}
use Rattle.std.specs.Ordering.{match_ordering}
use Rattle.std.specs.declared.cmp.Ordering.TheVariants.{Less, Equal, Greater}
use Rattle.std.specs.FinMap.Entries.{put, by_order}
use Rattle.fluid_io.specs.Causes.{Tells}
use Rattle.fluid_json.specs.Unless.{IsUnless}
use Rattle.fluid_tree.specs.Names.{first_refused}
use Rattle.fluid_tree.specs.Summary.{Summary, blob, tree, handle, Children, children, names, as_blob, as_children, as_handle}
use Rattle.fluid_tree.specs.Object.{object_bytes, bytes_answer, unless_refused}
use Rattle.fluid_tree.specs.declared.object.Object.TheVariants.{Tree as ObjectTree}
use Rattle.fluid_tree.specs.declared.object.ObjectEntry.{ObjectEntry}
use Rattle.fluid_tree.specs.declared.fault.TreeFault.{TreeFault}
use Rattle.fluid_tree.specs.declared.fault.TreeFault.TheVariants.{TooDeep, BadName, NoMemory as Memory}
use Rattle.fluid_store.specs.Held.{byte_order, Held}
use Rattle.fluid_store.specs.Storing.{Storing}
use Rattle.fluid_store.specs.Listed.{keyed_of}
use Rattle.fluid_store.specs.Fetching.{◌>>=◌, Answers}
use Rattle.fluid_store.specs.Keeping.{IsNoted, Adds}
use Rattle.fluid_store.specs.Parts.{Leads, Named, blob_part, part_within, parts_within, tree_within, tree_part, entry_of, refusal, unrefused, part_over}
use Rattle.fluid_store.specs.Uploading.{Lists, AddsSome, Uploads}
use Rattle.fluid_store.specs.declared.listing.Part.{Part}
use Rattle.fluid_store.specs.declared.listing.StoredObject.{StoredObject}
use Rattle.fluid_store.specs.declared.fault.StoreFault.{StoreFault}
use Rattle.fluid_store.specs.declared.fault.StoreFault.TheVariants.{StoreFailed, Clash, Missing, BadObject, Tree, NoPath, NoMemory}
use Rattle.fluid_store.proofs.Added.{adds_nothing}
use Rattle.fluid_store.proofs.Fetched.{tells_then, tells_both, tells_of, tells_all}

-- ---- what a call that looks a tree over answers

module _ (old mid new : Storing) (same : mid.content ≡ old.content) (later : old.faults ≤ mid.faults) where
  noted_since : (note : _) → IsNoted mid new note → IsNoted old new note
  noted_since note n = record { before = omega (arith, later, n.before); after = n.after; rose = n.rose }

  told_since : {A : Type 0} (h f : Held → Result A StoreFault) (r : Result A StoreFault) → Tells old.content (λ held. h held ≡ f held) → Tells mid.content (λ held. r ≡ h held) → Tells old.content (λ held. r ≡ f held)
  told_since h f r carry s = tells_both old.content (λ held. h held ≡ f held) (λ held. r ≡ h held) (λ held. r ≡ f held) (λ held c k. k ∙ c) carry (tells_of old.content mid.content (λ held. r ≡ h held) same s)

  -- what was answered later is the answer of the whole
  pub lists_on : {A : Type 0} (h f : Held → Result A StoreFault) (r : Result A StoreFault) → Tells old.content (λ held. h held ≡ f held) → Lists h mid new r → Lists f old new r
  lists_on h f (Ok a) carry s = told_since h f (Ok a) carry s
  lists_on h f (Err (StoreFailed note)) carry s = noted_since note s
  lists_on h f (Err (Missing id)) carry s = told_since h f (Err (Missing id)) carry s
  lists_on h f (Err (BadObject id place)) carry s = told_since h f (Err (BadObject id place)) carry s
  lists_on h f (Err (Tree fault)) carry s = told_since h f (Err (Tree fault)) carry s
  lists_on h f (Err (Clash id kept bytes)) carry s = absurd s
  lists_on h f (Err (NoPath path)) carry s = told_since h f (Err (NoPath path)) carry s
  lists_on h f (Err NoMemory) carry s = tt

  abbrev pub HandsOn : {A B : Type 0} → (Held → Result A StoreFault) → (Held → Result B StoreFault) → Held → Type 0
  HandsOn h f held = (e : StoreFault) → Err e ≡ h held → Err e ≡ f held

  told_fault : {A B : Type 0} (h : Held → Result A StoreFault) (f : Held → Result B StoreFault) (e : StoreFault) → Tells old.content (HandsOn h f) → Tells mid.content (λ held. Err e ≡ h held) → Tells old.content (λ held. Err e ≡ f held)
  told_fault h f e carry s = tells_both old.content (HandsOn h f) (λ held. Err e ≡ h held) (λ held. Err e ≡ f held) (λ held c k. c e k) carry (tells_of old.content mid.content (λ held. Err e ≡ h held) same s)

  -- a fault on the way is the answer of the whole
  pub lists_stop : {A B : Type 0} (h : Held → Result A StoreFault) (f : Held → Result B StoreFault) (e : StoreFault) → Tells old.content (HandsOn h f) → Lists h mid new (Err e) → Lists f old new (Err e)
  lists_stop h f (StoreFailed note) carry s = noted_since note s
  lists_stop h f (Missing id) carry s = told_fault h f (Missing id) carry s
  lists_stop h f (BadObject id place) carry s = told_fault h f (BadObject id place) carry s
  lists_stop h f (Tree fault) carry s = told_fault h f (Tree fault) carry s
  lists_stop h f (Clash id kept bytes) carry s = absurd s
  lists_stop h f (NoPath path) carry s = told_fault h f (NoPath path) carry s
  lists_stop h f NoMemory carry s = tt

pub lists_handed : {A : Type 0} (f : Held → Result A StoreFault) (old new : Storing) (r : Result A StoreFault) (e : StoreFault) → IsErrAnd r (λ x. x ≡ e) → Lists f old new (Err e) → Lists f old new r
lists_handed f old new (Ok a) e h s = absurd h
lists_handed f old new (Err x) e h s = subst (λ y. Lists f old new (Err y)) (sym h) s

pub wants_memory : {A : Type 0} (f : Held → Result A StoreFault) (old new : Storing) (r : Result A StoreFault) → IsErrAnd r (λ x. x ≡ NoMemory) → Lists f old new r
wants_memory f old new r h = lists_handed f old new r NoMemory h tt

-- ---- a node alone

pub blob_within : (leads : Leads) (levels : ℕ) (s : Summary) (content : List ℕ) → Some content ≡ as_blob s → Ok (blob_part content) ≡ part_within leads levels s
unfolding part_within
blob_within leads zero (blob c) content is = let same : content ≡ c = cc in ap (λ x. Ok (blob_part x)) same
blob_within leads (suc n) (blob c) content is = let same : content ≡ c = cc in ap (λ x. Ok (blob_part x)) same
blob_within leads levels (tree nodes) content is = cc
blob_within leads levels (handle path) content is = cc

pub handle_within : (leads : Leads) (levels : ℕ) (s : Summary) (path : List (List ℕ)) → Some path ≡ as_handle s → leads path ≡ part_within leads levels s
unfolding part_within
handle_within leads levels (blob c) path is = cc
handle_within leads levels (tree nodes) path is = cc
handle_within leads zero (handle own) path is = let same : path ≡ own = cc in ap leads same
handle_within leads (suc n) (handle own) path is = let same : path ≡ own = cc in ap leads same

pub too_deep : (leads : Leads) (levels : ℕ) (s : Summary) (nodes : Children) → Some nodes ≡ as_children s → levels ≡ 0 → Err (Tree TooDeep) ≡ part_within leads levels s
unfolding part_within
too_deep leads zero (tree own) nodes is none = refl
too_deep leads (suc n) s nodes is none = absurd (omega (arith, none))
too_deep leads zero (blob c) nodes is none = cc
too_deep leads zero (handle path) nodes is none = cc

pub deeper : (leads : Leads) (levels n : ℕ) (s : Summary) (nodes : Children) → Some nodes ≡ as_children s → levels ≡ suc n → tree_within leads n nodes ≡ part_within leads levels s
unfolding part_within
deeper leads zero n s nodes is some = absurd (omega (arith, some))
deeper leads (suc m) n (tree own) nodes is some =
    let same : nodes ≡ own = cc in
    let less : n ≡ m = omega (arith, some) in
    (λ i. tree_within leads (less i) (same i))
deeper leads (suc m) n (blob c) nodes is some = cc
deeper leads (suc m) n (handle path) nodes is some = cc

-- ---- the nodes of a tree

abbrev Nodes : Type 0
Nodes = List (List ℕ × Summary)

-- the parts so far, and then those of the nodes left, are those of all
abbrev pub Goes : Leads → ℕ → Nodes → ℕ → Named → Type 0
Goes leads levels ms i done = parts_within leads levels (children ms) ≡ (parts_within leads levels (children (drop i ms)) >>= λ rest. Ok (done ++ rest))

again : {A : Type 0} (r : Result A StoreFault) → r ≡ (r >>= λ a. Ok a)
again (Ok a) = refl
again (Err e) = refl

pub goes_start : (content : Option Held) (leads : Held → Leads) (levels : ℕ) (ms : Nodes) (parts : Named) → parts ≡ [] → Tells content (λ held. Goes (leads held) levels ms 0 parts)
goes_start content leads levels ms parts none =
    subst (λ ps. Tells content (λ held. Goes (leads held) levels ms 0 ps)) (sym none)
    (tells_all content (λ held. Goes (leads held) levels ms 0 []) (λ held. again (parts_within (leads held) levels (children ms))))

first_part : (leads : Leads) (levels : ℕ) (m : List ℕ × Summary) (ms : Nodes)
    → parts_within leads levels (children (m ∷ ms)) ≡ (part_within leads levels m.1 >>= λ part. parts_within leads levels (children ms) >>= λ parts. Ok ((m.0, part) ∷ parts))
unfolding parts_within
first_part leads levels m ms = refl

no_part : (leads : Leads) (levels : ℕ) → parts_within leads levels (children []) ≡ Ok []
unfolding parts_within
no_part leads levels = refl

module _ (leads : Leads) (levels : ℕ) (ms : Nodes) (i : ℕ) (m : List ℕ × Summary) (done : Named) (lt : i < length ms) (is : m ≡ get_or ms i m) (inv : Goes leads levels ms i done) where
  at : parts_within leads levels (children (drop i ms)) ≡ (part_within leads levels m.1 >>= λ part. parts_within leads levels (children (drop (i + 1) ms)) >>= λ parts. Ok ((m.0, part) ∷ parts))
  at =
      at_drop_more (λ l. parts_within leads levels (children l)) ms i m lt
      ∙ ap (λ x. parts_within leads levels (children (x ∷ drop (i + 1) ms))) (sym is) ∙ first_part leads levels m (drop (i + 1) ms)

  pub node_fails : (fault : StoreFault) → Err fault ≡ part_within leads levels m.1 → Err fault ≡ parts_within leads levels (children ms)
  node_fails fault h =
      sym (inv ∙ ap (λ r. r >>= λ rest. Ok (done ++ rest)) (at ∙ ap (λ r. r >>= λ part. parts_within leads levels (children (drop (i + 1) ms)) >>= λ parts. Ok ((m.0, part) ∷ parts)) (sym h)))

  behind : (r : Result Named StoreFault) (part : Part) → ((r >>= λ parts. Ok ((m.0, part) ∷ parts)) >>= λ rest. Ok (done ++ rest)) ≡ (r >>= λ rest. Ok ((done ++ (m.0, part) ∷ []) ++ rest))
  behind (Ok parts) part = ap Ok (sym (append_assoc done ((m.0, part) ∷ []) parts))
  behind (Err e) part = refl

  pub node_goes : (part : Part) → Ok part ≡ part_within leads levels m.1 → Goes leads levels ms (i + 1) (done ++ (m.0, part) ∷ [])
  node_goes part h =
      inv
      ∙ ap (λ r. r >>= λ rest. Ok (done ++ rest)) (at ∙ ap (λ r. r >>= λ p. parts_within leads levels (children (drop (i + 1) ms)) >>= λ parts. Ok ((m.0, p) ∷ parts)) (sym h))
      ∙ behind (parts_within leads levels (children (drop (i + 1) ms))) part

pub node_more : (content : Option Held) (leads : Held → Leads) (levels : ℕ) (ms : Nodes) (i : ℕ) (m : List ℕ × Summary) (done more : Named) (name : List ℕ) (part : Part) → i < length ms
    → m ≡ get_or ms i m → name ≡ m.0 → more ≡ done ++ (name, part) ∷ [] → Tells content (λ held. Goes (leads held) levels ms i done)
    → Tells content (λ held. Ok part ≡ part_within (leads held) levels m.1) → Tells content (λ held. Goes (leads held) levels ms (i + 1) more)
node_more content leads levels ms i m done more name part lt is named grown inv one =
    let list : more ≡ done ++ (m.0, part) ∷ [] = grown ∙ ap (λ x. done ++ (x, part) ∷ []) named in
    subst (λ ps. Tells content (λ held. Goes (leads held) levels ms (i + 1) ps)) (sym list)
    (tells_both content (λ held. Goes (leads held) levels ms i done) (λ held. Ok part ≡ part_within (leads held) levels m.1) (λ held. Goes (leads held) levels ms (i + 1) (done ++ (m.0, part) ∷ []))
    (λ held h k. node_goes (leads held) levels ms i m done lt is h part k) inv one)

pub node_stops : (content : Option Held) (leads : Held → Leads) (levels : ℕ) (ms : Nodes) (i : ℕ) (m : List ℕ × Summary) (done : Named) → i < length ms → m ≡ get_or ms i m
    → Tells content (λ held. Goes (leads held) levels ms i done)
    → Tells content (λ held. (e : StoreFault) → Err e ≡ part_within (leads held) levels m.1 → Err e ≡ parts_within (leads held) levels (children ms))
node_stops content leads levels ms i m done lt is inv = tells_then content (λ held. Goes (leads held) levels ms i done) _ (λ held h e k. node_fails (leads held) levels ms i m done lt is h e k) inv

pub nodes_end : (leads : Leads) (levels : ℕ) (ms : Nodes) (i : ℕ) (done : Named) → length ms ≤ i → Goes leads levels ms i done → Ok done ≡ parts_within leads levels (children ms)
nodes_end leads levels ms i done le inv =
    sym (inv ∙ ap (λ r. r >>= λ rest. Ok (done ++ rest)) (at_drop_all (λ l. parts_within leads levels (children l)) ms i le ∙ no_part leads levels) ∙ ap Ok (append-nil done))

-- ---- a tree

pub names_pass : (leads : Leads) (levels : ℕ) (nodes : Children) (u : Unit {0}) → IsUnless NoMemory (Ok u) (unrefused (first_refused [] (names nodes)))
    → (parts_within leads levels nodes >>= λ parts. Ok (tree_part parts)) ≡ tree_within leads levels nodes
names_pass leads levels nodes u (inl e) = cc
names_pass leads levels nodes u (inr e) = ap (λ r. r >>= λ ok. parts_within leads levels nodes >>= λ parts. Ok (tree_part parts)) e

-- ---- a map from texts puts a list where the list by keys does

pub put_keyed : (ms : List (String Global × List StoredObject)) (k : String Global) (v : List StoredObject) → keyed_of (insert_entry string_cmp ms k v) ≡ put byte_order (string_bytes k) v (keyed_of ms)
put_keyed [] k v = refl
put_keyed (m ∷ ms) k v =
    elim (string_cmp k m.0) as (λ o. keyed_of (match_ordering o ((k, v) ∷ m ∷ ms) ((m.0, v) ∷ ms) (m ∷ insert_entry string_cmp ms k v))
    ≡ by_order o ((string_bytes k, v) ∷ keyed_of (m ∷ ms)) ((string_bytes m.0, v) ∷ keyed_of ms) ((string_bytes m.0, m.1) ∷ put byte_order (string_bytes k) v (keyed_of ms))) [
      | Less ↦ refl
      | Equal ↦ refl
      | Greater ↦ ap (λ l. (string_bytes m.0, m.1) ∷ l) (put_keyed ms k v)
    ]

-- ---- the parts of a tree, put together

pub entries_go : (done : List ObjectEntry) (part : List ℕ × Part) (parts : Named) (all : List ObjectEntry) → done ++ map entry_of (part ∷ parts) ≡ all
    → (done ++ entry_of part ∷ []) ++ map entry_of parts ≡ all
entries_go done part parts all is = append_assoc done (entry_of part ∷ []) (map entry_of parts) ∙ is

pub on_ok : {A E : Type 0} (P Q : A → Type 0) (r : Result A E) → ((a : A) → P a → Q a) → IfOk r P → IfOk r Q
on_ok P Q (Ok a) then h = then a h
on_ok P Q (Err e) then h = tt

pub tree_goes : (leads : Leads) (levels : ℕ) (nodes : Children) (u : Unit {0}) (parts : Named) (part : Part) → IsUnless NoMemory (Ok u) (unrefused (first_refused [] (names nodes)))
    → Ok parts ≡ parts_within leads levels nodes → part ≡ tree_part parts → Ok part ≡ tree_within leads levels nodes
tree_goes leads levels nodes u parts part names_are all is = ap Ok is ∙ ap (λ r. r >>= λ ps. Ok (tree_part ps)) all ∙ names_pass leads levels nodes u names_are

pub blob_there : {B : Type 0} (now : B → List ℕ) (r : Option B) (d : B) (s : Summary) → None ≡ as_children s → None ≡ as_handle s → option_map now r ≡ as_blob s → Some (now (unwrap_or r d)) ≡ as_blob s
blob_there now None d (blob c) h k is = cc
blob_there now None d (tree nodes) h k is = cc
blob_there now None d (handle path) h k is = cc
blob_there now (Some b) d s h k is = is

-- ---- names

by_unless : (found : Option (List ℕ)) (own bytes : List ℕ) → Ok bytes ≡ unless_refused found own → unrefused found ≡ Ok tt
by_unless None own bytes is = refl
by_unless (Some name) own bytes is = cc

pub names_good : (entries : List ObjectEntry) (ns : List (List ℕ)) (bytes : List ℕ) → map (λ e. e.name) entries ≡ ns → IsUnless Memory (Ok bytes) (bytes_answer (ObjectTree entries))
    → Ok tt ≡ unrefused (first_refused [] ns)
unfolding bytes_answer
names_good entries ns bytes are (inl e) = cc
names_good entries ns bytes are (inr e) = sym (by_unless (first_refused [] ns) _ bytes (e ∙ ap (λ l. unless_refused (first_refused [] l) (object_bytes (ObjectTree entries))) are))

by_fault : (found : Option (List ℕ)) (own : List ℕ) (fault : TreeFault) → Err fault ≡ unless_refused found own → Err (refusal fault) ≡ unrefused found
by_fault None own fault is = cc
by_fault (Some name) own fault is = let same : fault ≡ BadName name = cc in ap (λ f. Err (refusal f)) same

pub names_bad : (entries : List ObjectEntry) (ns : List (List ℕ)) (fault : TreeFault) → map (λ e. e.name) entries ≡ ns → IsUnless {T = List ℕ} Memory (Err fault) (bytes_answer (ObjectTree entries))
    → IsUnless NoMemory (Err (refusal fault)) (unrefused (first_refused [] ns))
unfolding bytes_answer
names_bad entries ns fault are (inl e) = inl (let same : fault ≡ Memory = cc in ap (λ f. Err (refusal f)) same)
names_bad entries ns fault are (inr e) = inr (by_fault (first_refused [] ns) _ fault (e ∙ ap (λ l. unless_refused (first_refused [] l) (object_bytes (ObjectTree entries))) are))

-- ---- an upload that ends before the first object is put

first_of_any : {E : Type 0} (r : Result Part E) → IfOk r (λ part. (behind : List StoredObject) × (part.objects ≡ [] ++ behind))
first_of_any (Ok part) = (part.objects, refl)
first_of_any (Err e) = tt

nothing_added : (base : Option (List ℕ)) (node : Summary) (old new : Storing) → new.content ≡ old.content → AddsSome base node old new
nothing_added base node old new same = record {
  prefix = [];
  adds = subst (λ c. Adds [] old.content c) (sym same) (adds_nothing old.content);
  are_first = tells_all old.content _ (λ held. first_of_any (part_over held base node));
}

pub upload_refused : (base : Option (List ℕ)) (node : Summary) (old new : Storing) (fault : StoreFault) → new.content ≡ old.content
    → Lists (λ held. part_over held base node) old new (Err fault) → Uploads base node old new (Err fault)
upload_refused base node old new (StoreFailed note) same h = (h, nothing_added base node old new same)
upload_refused base node old new (Clash id kept bytes) same h = absurd h
upload_refused base node old new (Missing id) same h = record { is_fault = h; same = same }
upload_refused base node old new (BadObject id place) same h = record { is_fault = h; same = same }
upload_refused base node old new (Tree fault) same h = record { is_fault = h; same = same }
upload_refused base node old new (NoPath path) same h = record { is_fault = h; same = same }
upload_refused base node old new NoMemory same h = nothing_added base node old new same

pub upload_handed : (base : Option (List ℕ)) (node : Summary) (old new : Storing) (r : Result (List ℕ) StoreFault) (e : StoreFault) → IsErrAnd r (λ x. x ≡ e) → Uploads base node old new (Err e) → Uploads base node old new r
upload_handed base node old new (Ok a) e h s = absurd h
upload_handed base node old new (Err x) e h s = subst (λ y. Uploads base node old new (Err y)) (sym h) s
