-- Calls on a store that is lent.
use Rattle.std.proofs.Common.{◌≡◌, inl, inr, ℕ, arith, Bool, true, false, List, [], ◌++◌, Option, Some, None, is_some, IfSome, option_map, Result, Ok, Err, IfOk, refl, sym, ap, subst, ◌∙◌, append-nil}
use Rattle.std.specs.FinMap.{get}
use Rattle.fluid_io.specs.Causes.{Rose, Tells}
use Rattle.fluid_io.specs.declared.faults.FaultNote.{FaultNote}
use Rattle.fluid_tree.specs.Summary.{Summary}
use Rattle.fluid_store.specs.Held.{Held, Keeps}
use Rattle.fluid_store.specs.Storing.{Storing, Gets}
use Rattle.fluid_store.specs.Keeping.{Counts, Adds, with_all}
use Rattle.fluid_store.specs.Fetching.{◌>>=◌}
use Rattle.fluid_store.specs.Parts.{part_over, objects_over}
use Rattle.fluid_store.specs.Uploading.{Uploads, Uploaded, ClashesIn, AddsSome, Refused, IsEarlier, StandsResolved}
use Rattle.fluid_store.specs.declared.fault.ObjectFault.{ObjectFault}
use Rattle.fluid_store.specs.declared.fault.ObjectFault.TheVariants.{Failed}
use Rattle.fluid_store.specs.declared.fault.StoreFault.{StoreFault}
use Rattle.fluid_store.specs.declared.fault.StoreFault.TheVariants.{StoreFailed, Clash, Missing, BadObject, Tree, NoPath, NoMemory}
use Rattle.fluid_store.specs.declared.listing.StoredObject.{StoredObject}
use Rattle.fluid_store.proofs.Putting.{puts, puts_all}
use Rattle.fluid_types.specs.Ledger.{Ledger}
use Rattle.fluid_lane.specs.Steps.{ledger}
use Rattle.fluid_lane.specs.Standing.{Standing}
use Rattle.fluid_loader.specs.Link.{Document, BothTell, IsTreeRefused, PutsTree, PutsSome}
use Rattle.fluid_loader.specs.Listed.{link_fault}
use Rattle.fluid_loader.specs.declared.link.LinkFault.TheVariants as link
use Rattle.fluid_door_link.specs.declared.fault.LentFault.{LentFault}
use Rattle.fluid_door_link.specs.declared.fault.LentFault.TheVariants.{Store}
use Rattle.fluid_door_link.specs.Failing.{CountsTree, HasCause, IsHonest, IsTreeCounted, kept_of_store}
use Rattle.fluid_door_link.specs.Coursing.{Along, IsAlong}
use Rattle.fluid_door_link.specs.Linking.{GetsBy, PutsAll, TreesBy, UploadsBy}
use Rattle.fluid_door_link.specs.Telling.{told_by}
use Rattle.fluid_door_link.proofs.Told.{IsKnown, document_of, told_of}
use Rattle.fluid_door_link.proofs.Walked.{known, went_store}

-- ---- what is told over a store

-- ---- getting

module _ (good : Bool) (began : Standing) (before : Storing) (at : Along) (along : IsAlong good began before at) (none : at.stop ≡ None) (id : List ℕ) (new : Storing) where
  pub got_along : (r : Result (Option (List ℕ)) ObjectFault) → Gets id at.store new r → IsAlong good began before (record { lane = at.lane; store = new; stop = None })
  got_along r gets = went_store good began before at along none new None gets.later (ap is_some gets.content) (λ is. tt) tt

-- ---- putting

-- what is listed of a part that there is
of_part : {P : Type 0} (r : Result P StoreFault) (p : P) (f : P → List ℕ × List StoredObject) → Ok p ≡ r → (r >>= λ q. Ok (f q)) ≡ Ok (f p)
of_part r p f is = ap (λ x. x >>= λ q. Ok (f q)) (sym is)

no_part : {P : Type 0} (r : Result P StoreFault) (fault : StoreFault) (f : P → List ℕ × List StoredObject) → Err fault ≡ r → (r >>= λ q. Ok (f q)) ≡ Err fault
no_part r fault f is = ap (λ x. x >>= λ q. Ok (f q)) (sym is)

abbrev HasPrefix : List StoredObject → Result (List ℕ × List StoredObject) StoreFault → Type 0
HasPrefix prefix r = IfOk r (λ tree. (behind : List StoredObject) × (tree.1 ≡ prefix ++ behind))

prefix_of : {P : Type 0} (prefix : List StoredObject) (r : Result P StoreFault) (id : P → List ℕ) (objects : P → List StoredObject)
    → IfOk r (λ p. (behind : List StoredObject) × (objects p ≡ prefix ++ behind)) → HasPrefix prefix (r >>= λ p. Ok (id p, objects p))
prefix_of prefix (Ok p) id objects h = h
prefix_of prefix (Err fault) id objects h = tt

no_prefix : (r : Result (List ℕ × List StoredObject) StoreFault) → HasPrefix [] r
no_prefix (Ok tree) = (tree.1, refl)
no_prefix (Err fault) = tt

some_same : (a b : Held) → ◌≡◌ {A = Option Held} (Some a) (Some b) → a ≡ b
some_same a b same = cc

none_some : (a : Held) → ◌≡◌ {A = Option Held} None (Some a) → ⊥
none_some a same = cc

some_none : (a : Held) → ◌≡◌ {A = Option Held} (Some a) None → ⊥
some_none a same = cc

-- over a store that tells what it holds, before and behind
module _ (node : Summary) (base : Option (List ℕ)) (l : Ledger) (limit : ℕ) (m n : Held) (faults gets later more : ℕ) where
  abbrev old : Storing
  old = record { content = Some m; faults = faults; gets = gets }

  abbrev new : Storing
  new = record { content = Some n; faults = later; gets = more }

  abbrev first : Document
  first = document_of l limit m

  abbrev after : Document
  after = document_of l limit n

  abbrev with_held : Held → Document
  with_held held = document_of l limit held

  put_all : (id : List ℕ) → Uploaded base node old new id → PutsTree node base (Ok id) first after
  put_all id u =
      let done = puts_all {A = Unit {0}} u.part.objects old new tt u.adds in
      record {
        own = u.part.place.id;
        objects = u.part.objects;
        of_tree = of_part (part_over m base node) u.part (λ p. (p.place.id, p.objects)) u.is_part;
        answer = (u.is_id, done.0);
        held = ap with_held done.1;
      }

  put_clash : (id kept bytes : List ℕ) → ClashesIn base node old new id kept bytes → PutsTree node base (Err (link.Clash id kept bytes)) first after
  put_clash id kept bytes u =
      let done = puts {A = Unit {0}} u.part.objects old new (Err (Clash id kept bytes)) u.clashes in
      record {
        own = u.part.place.id;
        objects = u.part.objects;
        of_tree = of_part (part_over m base node) u.part (λ p. (p.place.id, p.objects)) u.is_part;
        answer = done.0;
        held = ap with_held done.1;
      }

  some_of : (prefix : List StoredObject) → HasPrefix prefix (objects_over m base node) → Adds prefix old.content new.content → PutsSome node base first after
  some_of prefix are_first adds =
      let is = some_same n (with_all m prefix) adds.content in
      record { prefix = prefix; are_first = are_first; held = ap with_held is; kept = subst (Keeps m) (sym is) adds.kept }

  put_some : AddsSome base node old new → PutsSome node base first after
  put_some u = some_of u.prefix (prefix_of u.prefix (part_over m base node) (λ p. p.place.id) (λ p. p.objects) u.are_first) u.adds

  put_none : (fault : StoreFault) → Refused base node old new fault → PutsSome node base first after
  put_none fault u =
      let is = some_same n m u.same in
      record { prefix = []; are_first = no_prefix (objects_over m base node); held = ap with_held is; kept = subst (Keeps m) (sym is) (λ id bytes found. found) }

  put_whole : (id : List ℕ) → Uploaded base node old new id → ((earlier : Option Summary) → IsEarlier m base earlier → StandsResolved n earlier node id) → PutsAll node base id first after
  put_whole id u stands =
      let whole : HasPrefix u.part.objects (objects_over m base node) =
      subst (HasPrefix u.part.objects) (sym (of_part (part_over m base node) u.part (λ p. (p.place.id, p.objects)) u.is_part)) ([], sym (append-nil u.part.objects)) in
      record { tree = put_all id u; stands = stands; some = some_of u.part.objects whole u.adds }

  put_by : (fault : StoreFault) → Uploads base node old new (Err fault) → UploadsBy node base (Some first) (Some after) (Err (link_fault fault))
  put_by (StoreFailed note) u = put_some u.1
  put_by (Clash id kept bytes) u = put_clash id kept bytes u
  put_by (Missing id) u = put_none (Missing id) u
  put_by (BadObject id place) u = put_none (BadObject id place) u
  put_by (Tree fault) u = put_none (Tree fault) u
  put_by (NoPath path) u = put_none (NoPath path) u
  put_by NoMemory u = put_some u

  refused_tree : (fault : StoreFault) → Refused base node old new fault → IsTreeRefused node base first after
  refused_tree fault u = record { fault = fault; refused = no_part (part_over m base node) fault (λ p. (p.place.id, p.objects)) u.is_fault; same = ap with_held (some_same n m u.same) }

  trees_by : (fault : StoreFault) (t now : ℕ) → Uploads base node old new (Err fault) → CountsTree fault t now → TreesBy node base (Some first) (Some after) t now (Err (link_fault fault))
  trees_by (StoreFailed note) t now u is = inl is
  trees_by (Clash id kept bytes) t now u is = is
  trees_by (Missing id) t now u is = inr (refused_tree (Missing id) u)
  trees_by (BadObject id place) t now u is = inr (refused_tree (BadObject id place) u)
  trees_by (Tree fault) t now u is = inr (refused_tree (Tree fault) u)
  trees_by (NoPath path) t now u is = inr (refused_tree (NoPath path) u)
  trees_by NoMemory t now u is = is

-- ---- whether a store tells never changes

map_some : (f : Held → Held) (o p : Option Held) → p ≡ option_map f o → is_some p ≡ is_some o
map_some f None p is = ap is_some is
map_some f (Some held) p is = ap is_some is

module _ (node : Summary) (base : Option (List ℕ)) (old new : Storing) where
  adds_tell : (os : List StoredObject) → Adds os old.content new.content → is_some new.content ≡ is_some old.content
  adds_tell os adds = map_some (λ held. with_all held os) old.content new.content adds.content

  put_tells : (r : Result (List ℕ) StoreFault) → Uploads base node old new r → is_some new.content ≡ is_some old.content
  put_tells (Ok id) u = adds_tell u.part.objects u.adds
  put_tells (Err (StoreFailed note)) u = adds_tell u.1.prefix u.1.adds
  put_tells (Err (Clash id kept bytes)) u = adds_tell u.clashes.prefix u.clashes.adds
  put_tells (Err (Missing id)) u = ap is_some u.same
  put_tells (Err (BadObject id place)) u = ap is_some u.same
  put_tells (Err (Tree fault)) u = ap is_some u.same
  put_tells (Err (NoPath path)) u = ap is_some u.same
  put_tells (Err NoMemory) u = adds_tell u.prefix u.adds

-- ---- by what is told before and behind

no_uploads : (node : Summary) (base : Option (List ℕ)) (fault : StoreFault) → UploadsBy node base None None (Err (link_fault fault))
no_uploads node base (StoreFailed note) = tt
no_uploads node base (Clash id kept bytes) = tt
no_uploads node base (Missing id) = tt
no_uploads node base (BadObject id place) = tt
no_uploads node base (Tree fault) = tt
no_uploads node base (NoPath path) = tt
no_uploads node base NoMemory = tt

no_trees : (node : Summary) (base : Option (List ℕ)) (fault : StoreFault) (t now : ℕ) → CountsTree fault t now → TreesBy node base None None t now (Err (link_fault fault))
no_trees node base (StoreFailed note) t now is = inl is
no_trees node base (Clash id kept bytes) t now is = is
no_trees node base (Missing id) t now is = inr tt
no_trees node base (BadObject id place) t now is = inr tt
no_trees node base (Tree fault) t now is = inr tt
no_trees node base (NoPath path) t now is = inr tt
no_trees node base NoMemory t now is = is

some_false : true ≡ false → ⊥
some_false same = cc

module _ (node : Summary) (base : Option (List ℕ)) (l : Ledger) (limit : ℕ) (faults gets later more : ℕ) where
  put_if : (id : List ℕ) (o p : Option Held) → Uploaded base node (record { content = o; faults = faults; gets = gets }) (record { content = p; faults = later; gets = more }) id
      → Tells o (λ held. (earlier : Option Summary) → IsEarlier held base earlier → Tells p (λ now. StandsResolved now earlier node id)) → is_some p ≡ is_some o
      → BothTell (PutsAll node base id) (option_map (document_of l limit) o) (option_map (document_of l limit) p)
  put_if id None None u stands tells = tt
  put_if id None (Some n) u stands tells = absurd (some_false tells)
  put_if id (Some m) None u stands tells = absurd (some_false (sym tells))
  put_if id (Some m) (Some n) u stands tells = put_whole node base l limit m n faults gets later more id u stands

  unput_if : (fault : StoreFault) (o p : Option Held) → Uploads base node (record { content = o; faults = faults; gets = gets }) (record { content = p; faults = later; gets = more }) (Err fault)
      → is_some p ≡ is_some o → UploadsBy node base (option_map (document_of l limit) o) (option_map (document_of l limit) p) (Err (link_fault fault))
  unput_if fault None None u tells = no_uploads node base fault
  unput_if fault None (Some n) u tells = absurd (some_false tells)
  unput_if fault (Some m) None u tells = absurd (some_false (sym tells))
  unput_if fault (Some m) (Some n) u tells = put_by node base l limit m n faults gets later more fault u

  trees_if : (fault : StoreFault) (t now : ℕ) → CountsTree fault t now → (o p : Option Held)
      → Uploads base node (record { content = o; faults = faults; gets = gets }) (record { content = p; faults = later; gets = more }) (Err fault)
      → is_some p ≡ is_some o → TreesBy node base (option_map (document_of l limit) o) (option_map (document_of l limit) p) t now (Err (link_fault fault))
  trees_if fault t now is None None u tells = no_trees node base fault t now is
  trees_if fault t now is None (Some n) u tells = absurd (some_false tells)
  trees_if fault t now is (Some m) None u tells = absurd (some_false (sym tells))
  trees_if fault t now is (Some m) (Some n) u tells = trees_by node base l limit m n faults gets later more fault t now u is

-- what is told of a lane over one content and another, where it is told
told_so : (P : Option Document → Option Document → Type 0) (good : Bool) (s : Standing) → (good ≡ true → IsKnown s) → (store now : Storing) → P None None
    → ((l : Ledger) (limit : ℕ) → P (option_map (document_of l limit) store.content) (option_map (document_of l limit) now.content)) → P (told_by good s store) (told_by good s now)
told_so P false s known store now none both = none
told_so P true s known store now none both =
    let at = known refl in
    subst (λ o. P o (told_by true s now)) (sym (told_of s at store))
    (subst (λ o. P (option_map (document_of (ledger at.list) s.limits.entries) store.content) o) (sym (told_of s at now)) (both (ledger at.list) s.limits.entries))

module _ (good : Bool) (began : Standing) (before : Storing) (at : Along) (along : IsAlong good began before at) (none : at.stop ≡ None) (node : Summary) (base : Option (List ℕ)) (new : Storing) (counts : Counts at.store new) where
  pub put_along : (id : List ℕ) → Uploads base node at.store new (Ok id) → IsAlong good began before (record { lane = at.lane; store = new; stop = None })
  put_along id u = went_store good began before at along none new None counts.faults (put_tells node base at.store new (Ok id) u) (λ is. tt) tt

  refused_cause : (fault : StoreFault) → Refused base node at.store new fault → Tells new.content (λ held. Err fault ≡ part_over held base node)
  refused_cause fault u = subst (λ o. Tells o (λ held. Err fault ≡ part_over held base node)) (sym u.same) u.is_fault

  put_cause : (fault : StoreFault) → Uploads base node at.store new (Err fault) → IfSome (kept_of_store fault) (HasCause at.lane at.lane at.store new)
  put_cause (StoreFailed note) u = u.0
  put_cause (Clash id kept bytes) u = tt
  put_cause (Missing id) u = record { node = node; base = base; is_fault = refused_cause (Missing id) u }
  put_cause (BadObject id place) u = record { node = node; base = base; is_fault = refused_cause (BadObject id place) u }
  put_cause (Tree fault) u = record { node = node; base = base; is_fault = refused_cause (Tree fault) u }
  put_cause (NoPath path) u = record { node = node; base = base; is_fault = refused_cause (NoPath path) u }
  put_cause NoMemory u = tt

  put_honest : (fault : StoreFault) → IfSome (kept_of_store fault) IsHonest
  put_honest (StoreFailed note) = tt
  put_honest (Clash id kept bytes) = tt
  put_honest (Missing id) = tt
  put_honest (BadObject id place) = tt
  put_honest (Tree fault) = tt
  put_honest (NoPath path) = tt
  put_honest NoMemory = tt

  pub unput_along : (fault : StoreFault) → Uploads base node at.store new (Err fault) → IsAlong good began before (record { lane = at.lane; store = new; stop = kept_of_store fault })
  unput_along fault u =
      went_store good began before at along none new (kept_of_store fault) counts.faults (put_tells node base at.store new (Err fault) u) (λ is. put_honest fault) (put_cause fault u)

  pub put_told : (id : List ℕ) → Uploads base node at.store new (Ok id)
      → Tells at.store.content (λ held. (earlier : Option Summary) → IsEarlier held base earlier → Tells new.content (λ now. StandsResolved now earlier node id))
      → UploadsBy node base (told_by good at.lane at.store) (told_by good at.lane new) (Ok id)
  put_told id u stands =
      told_so (λ o p. UploadsBy node base o p (Ok id)) good at.lane (known good began before at along) at.store new tt
      (λ l limit. put_if node base l limit at.store.faults at.store.gets new.faults new.gets id at.store.content new.content u stands (put_tells node base at.store new (Ok id) u))

  pub unput_told : (fault : StoreFault) → Uploads base node at.store new (Err fault) → UploadsBy node base (told_by good at.lane at.store) (told_by good at.lane new) (Err (link_fault fault))
  unput_told fault u =
      told_so (λ o p. UploadsBy node base o p (Err (link_fault fault))) good at.lane (known good began before at along) at.store new (no_uploads node base fault)
      (λ l limit. unput_if node base l limit at.store.faults at.store.gets new.faults new.gets fault at.store.content new.content u (put_tells node base at.store new (Err fault) u))

  pub trees_told : (fault : StoreFault) (t now : ℕ) → CountsTree fault t now → Uploads base node at.store new (Err fault)
      → TreesBy node base (told_by good at.lane at.store) (told_by good at.lane new) t now (Err (link_fault fault))
  trees_told fault t now is u =
      told_so (λ o p. TreesBy node base o p t now (Err (link_fault fault))) good at.lane (known good began before at along) at.store new (no_trees node base fault t now is)
      (λ l limit. trees_if node base l limit at.store.faults at.store.gets new.faults new.gets fault t now is at.store.content new.content u (put_tells node base at.store new (Err fault) u))

-- ---- a refused tree is counted

false_true : false ≡ true → ⊥
false_true same = cc

pub tree_counted : (fault : StoreFault) (t now : ℕ) → CountsTree fault t now → IsTreeCounted (kept_of_store fault) now
tree_counted (StoreFailed note) t now is refused = absurd (false_true refused)
tree_counted (Clash id kept bytes) t now is refused = absurd (false_true refused)
tree_counted (Missing id) t now is refused = is
tree_counted (BadObject id place) t now is refused = is
tree_counted (Tree fault) t now is refused = is
tree_counted (NoPath path) t now is refused = is
tree_counted NoMemory t now is refused = absurd (false_true refused)

pub none_counted : (now : ℕ) → IsTreeCounted None now
none_counted now refused = absurd (false_true refused)

pub counted_at : (a : Along) (lane : Standing) (store : Storing) (stop : Option LentFault) (now : ℕ) → a ≡ record { lane = lane; store = store; stop = stop } → IsTreeCounted stop now → IsTreeCounted a.stop now
counted_at a lane store stop now is counted = subst (λ s. IsTreeCounted s now) (sym (ap (λ (x : Along). x.stop) is)) counted
