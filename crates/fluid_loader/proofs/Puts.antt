-- What an upload does to objects in memory.
use Rattle.std.proofs.Common.{◌≡◌, ℕ, List, [], ◌++◌, Option, Some, Result, Ok, Err, IfOk, refl, sym, ap, subst, append-nil}
use Rattle.fluid_tree.specs.Summary.{Summary}
use Rattle.fluid_types.specs.declared.messages.Message.{Message}
use Rattle.fluid_store.specs.Held.{Held, Keeps}
use Rattle.fluid_store.specs.Storing.{Storing}
use Rattle.fluid_store.specs.Memory.{MemoryStoring, memory_seen}
use Rattle.fluid_store.specs.Keeping.{Adds, with_all}
use Rattle.fluid_store.specs.Fetching.{◌>>=◌}
use Rattle.fluid_store.specs.Parts.{part_over, objects_over}
use Rattle.fluid_store.specs.Uploading.{Uploads, Uploaded, ClashesIn, AddsSome, Refused, IsEarlier, StandsResolved}
use Rattle.fluid_store.proofs.Putting.{puts, puts_all}
use Rattle.fluid_store.specs.declared.fault.StoreFault.{StoreFault}
use Rattle.fluid_store.specs.declared.fault.StoreFault.TheVariants.{StoreFailed, Clash, Missing, BadObject, Tree, NoPath, NoMemory}
use Rattle.fluid_store.specs.declared.listing.StoredObject.{StoredObject}
use Rattle.fluid_loader.specs.Link.{Document, PutsTree, PutsSome}
use Rattle.fluid_loader.specs.Listed.{listed, link_fault, PutInto}
use Rattle.fluid_loader.specs.declared.link.LinkFault.TheVariants as link

-- what is listed of a part that there is
of_part : {P : Type 0} (r : Result P StoreFault) (p : P) (f : P → List ℕ × List StoredObject) → Ok p ≡ r → (r >>= λ q. Ok (f q)) ≡ Ok (f p)
of_part r p f is = ap (λ x. x >>= λ q. Ok (f q)) (sym is)

abbrev HasPrefix : List StoredObject → Result (List ℕ × List StoredObject) StoreFault → Type 0
HasPrefix prefix r = IfOk r (λ tree. (behind : List StoredObject) × (tree.1 ≡ prefix ++ behind))

prefix_of : {P : Type 0} (prefix : List StoredObject) (r : Result P StoreFault) (id : P → List ℕ) (objects : P → List StoredObject)
    → IfOk r (λ p. (behind : List StoredObject) × (objects p ≡ prefix ++ behind)) → HasPrefix prefix (r >>= λ p. Ok (id p, objects p))
prefix_of prefix (Ok p) id objects h = h
prefix_of prefix (Err fault) id objects h = tt

no_prefix : (r : Result (List ℕ × List StoredObject) StoreFault) → HasPrefix [] r
no_prefix (Ok tree) = (tree.1, refl)
no_prefix (Err fault) = tt

module _ (node : Summary) (base : Option (List ℕ)) (order : List Message) (m n : MemoryStoring) where
  abbrev old : Storing
  old = memory_seen m

  abbrev new : Storing
  new = memory_seen n

  abbrev before : Document
  before = listed order m.held

  abbrev after : Document
  after = listed order n.held

  abbrev with_held : Held → Document
  with_held held = listed order held

  held_now : (h : Held) → Some n.held ≡ Some h → n.held ≡ h
  held_now h is = cc

  put_all : (id : List ℕ) → Uploaded base node old new id → PutsTree node base (Ok id) before after
  put_all id u =
      let done = puts_all {A = Unit {0}} u.part.objects old new tt u.adds in
      record {
        own = u.part.place.id;
        objects = u.part.objects;
        of_tree = of_part (part_over m.held base node) u.part (λ p. (p.place.id, p.objects)) u.is_part;
        answer = (u.is_id, done.0);
        held = ap with_held done.1;
      }

  put_clash : (id kept bytes : List ℕ) → ClashesIn base node old new id kept bytes → PutsTree node base (Err (link.Clash id kept bytes)) before after
  put_clash id kept bytes u =
      let done = puts {A = Unit {0}} u.part.objects old new (Err (Clash id kept bytes)) u.clashes in
      record {
        own = u.part.place.id;
        objects = u.part.objects;
        of_tree = of_part (part_over m.held base node) u.part (λ p. (p.place.id, p.objects)) u.is_part;
        answer = done.0;
        held = ap with_held done.1;
      }

  keeps_now : (h : Held) → n.held ≡ h → Keeps m.held h → Keeps m.held n.held
  keeps_now h is keeps = subst (Keeps m.held) (sym is) keeps

  some_of : (prefix : List StoredObject) → HasPrefix prefix (objects_over m.held base node) → Adds prefix old.content new.content → PutsSome node base before after
  some_of prefix first adds =
      let is = held_now (with_all m.held prefix) adds.content in
      record { prefix = prefix; are_first = first; held = ap with_held is; kept = keeps_now (with_all m.held prefix) is adds.kept }

  put_some : AddsSome base node old new → PutsSome node base before after
  put_some u = some_of u.prefix (prefix_of u.prefix (part_over m.held base node) (λ p. p.place.id) (λ p. p.objects) u.are_first) u.adds

  put_none : (fault : StoreFault) → Refused base node old new fault → PutsSome node base before after
  put_none fault u =
      let is = held_now m.held u.same in
      record {
        prefix = [];
        are_first = no_prefix (objects_over m.held base node);
        held = ap with_held is;
        kept = keeps_now m.held is (λ id bytes found. found);
      }

  pub put_into_ok : (id : List ℕ) → Uploaded base node old new id → ((earlier : Option Summary) → IsEarlier m.held base earlier → StandsResolved n.held earlier node id)
      → PutInto node base order m.held n.held (Ok id)
  put_into_ok id u stands =
      let whole : HasPrefix u.part.objects (objects_over m.held base node) =
      subst (HasPrefix u.part.objects) (sym (of_part (part_over m.held base node) u.part (λ p. (p.place.id, p.objects)) u.is_part)) ([], sym (append-nil u.part.objects)) in
      (put_all id u, (stands, some_of u.part.objects whole u.adds))

  pub put_into_err : (fault : StoreFault) → Uploads base node old new (Err fault) → PutInto node base order m.held n.held (Err (link_fault fault))
  put_into_err (StoreFailed note) u = put_some u.1
  put_into_err (Clash id kept bytes) u = put_clash id kept bytes u
  put_into_err (Missing id) u = put_none (Missing id) u
  put_into_err (BadObject id place) u = put_none (BadObject id place) u
  put_into_err (Tree fault) u = put_none (Tree fault) u
  put_into_err (NoPath path) u = put_none (NoPath path) u
  put_into_err NoMemory u = put_some u
