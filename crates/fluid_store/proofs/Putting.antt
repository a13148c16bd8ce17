-- Objects that were added are those that are put, up to the first clash.
use Rattle.std.proofs.Common.{◌≡◌, ◌≢◌, ℕ, Bool, true, false, cond, List, [], ◌∷◌, ◌++◌, Option, Some, None, Result, Ok, Err, bytes_eq, refl, sym, ap, subst, ◌∙◌, ⊎_elim, append-nil}
use Rattle.std.specs.Ordering.{eq_by_cmp}
use Rattle.std.specs.FinMap.{get, insert, get-insert}
use Rattle.std.proofs.lemmas.Bool.{cases_Bool}
use Rattle.std.proofs.lemmas.Slice.Eq.{bytes_eq-Decides}
use Rattle.fluid_io.specs.Causes.{Tells}
use Rattle.fluid_store.specs.Held.{byte_order, Held, Keeps}
use Rattle.fluid_store.specs.Storing.{Storing}
use Rattle.fluid_store.specs.Keeping.{with_all, Holds, Adds, Clashes, Stores}
use Rattle.fluid_store.specs.Putting.{Putting, behind, put_first, putting, IsPutting}
use Rattle.fluid_store.specs.declared.listing.StoredObject.{StoredObject}
use Rattle.fluid_store.specs.declared.fault.StoreFault.{StoreFault}
use Rattle.fluid_store.specs.declared.fault.StoreFault.TheVariants.{StoreFailed, Clash, Missing, BadObject, Tree, NoPath, NoMemory}
use Rattle.fluid_store.proofs.Maps.{byte_order_total}
use Rattle.fluid_store.proofs.Added.{same_key}

-- what kept all that was held, and holds this too, keeps all with this put
keeps_put : (held more : Held) (id bytes : List ℕ) → Keeps held more → get more id ≡ Some bytes → Keeps (insert held id bytes) more
keeps_put held more id bytes keeps holds q b has =
    go (eq_by_cmp byte_order q id) refl (sym (get-insert byte_order_total held id bytes q) ∙ has)
  where
    go : (c : Bool) → eq_by_cmp byte_order q id ≡ c → cond c (Some bytes) (get held q) ≡ Some b → get more q ≡ Some b
    go true same is = ap (get more) (same_key q id same) ∙ holds ∙ is
    go false other is = keeps q b is

-- an object under whose id no other bytes are held is put
is_first : (held more : Held) (o : StoredObject) (found : Option (List ℕ)) (later : Putting) → get held o.id ≡ found → Keeps held more →
    get more o.id ≡ Some o.bytes → put_first held o found later ≡ behind o later
is_first held more o None later is keeps holds = refl
is_first held more o (Some kept) later is keeps holds =
    let same : kept ≡ o.bytes = cc (sym (keeps o.id kept is) ∙ holds) in rw ((bytes_eq-Decides kept o.bytes).1 same) refl

abbrev in_front : List StoredObject → Putting → Putting
in_front prefix p = record p { put = prefix ++ p.put }

-- those that were added stand in front
prefix_put : (held : Held) (prefix rest : List StoredObject) → Keeps held (with_all held prefix) → Holds (with_all held prefix) prefix →
    putting held (prefix ++ rest) ≡ in_front prefix (putting (with_all held prefix) rest)
prefix_put held [] rest keeps holds = refl
prefix_put held (o ∷ os) rest keeps holds =
    let more = with_all (insert held o.id o.bytes) os in
    is_first held more o (get held o.id) (putting (insert held o.id o.bytes) (os ++ rest)) refl keeps holds.0
    ∙ ap (behind o) (prefix_put (insert held o.id o.bytes) os rest (keeps_put held more o.id o.bytes keeps holds.0) holds.1)

all_put : (held : Held) (os : List StoredObject) → Keeps held (with_all held os) → Holds (with_all held os) os →
    putting held os ≡ record { held = with_all held os; put = os; clash = None }
all_put held os keeps holds =
    ap (putting held) (sym (append-nil os)) ∙ prefix_put held os [] keeps holds ∙ ap (λ put. record { held = with_all held os; put = put; clash = None }) (append-nil os)

differ_eq : (a b : List ℕ) → a ≢ b → bytes_eq a b ≡ false
differ_eq a b differ = ⊎_elim (λ same. absurd (differ ((bytes_eq-Decides a b).0 same))) (λ other. other) (cases_Bool (bytes_eq a b))

-- the first that finds other bytes ends it
stops_at : (held : Held) (o : StoredObject) (os : List StoredObject) (kept : List ℕ) → get held o.id ≡ Some kept → kept ≢ o.bytes →
    putting held (o ∷ os) ≡ record { held = held; put = []; clash = Some (record { id = o.id; kept = kept; bytes = o.bytes }) }
stops_at held o os kept is differ = rw (is, differ_eq kept o.bytes differ) refl

holds_all : (new : Option Held) (held : Held) (p : Putting) → new ≡ Some held → held ≡ p.held → Tells new (λ h. h ≡ p.held)
holds_all new held p is same = subst (λ o. Tells o (λ h. h ≡ p.held)) (sym is) same

put_by : (old new : Option Held) (os : List StoredObject) → Adds os old new → Tells old (λ held. (putting held os).clash ≡ None × Tells new (λ h. h ≡ (putting held os).held))
put_by None new os adds = tt
put_by (Some held) new os adds =
    let is = all_put held os adds.kept adds.added in
    (ap (λ p. p.clash) is, holds_all new (with_all held os) (putting held os) adds.content (sym (ap (λ p. p.held) is)))

clash_by : (old new : Option Held) (os : List StoredObject) (id kept bytes : List ℕ) → Clashes os old new id kept bytes →
    Tells old (λ held. ((putting held os).clash ≡ Some (record { id = id; kept = kept; bytes = bytes })) × Tells new (λ h. h ≡ (putting held os).held))
clash_by None new os id kept bytes clash = tt
clash_by (Some held) new os id kept bytes clash =
    let o : StoredObject = record { id = id; bytes = bytes } in
    let before = with_all held clash.prefix in
    let was : get before id ≡ Some kept = subst (λ c. Tells c (λ h. get h id ≡ Some kept)) clash.adds.content clash.was in
    let is : putting held os ≡ record { held = before; put = clash.prefix ++ []; clash = Some (record { id = id; kept = kept; bytes = bytes }) } =
    ap (putting held) clash.splits
    ∙ prefix_put held clash.prefix (o ∷ clash.behind) clash.adds.kept clash.adds.added
    ∙ ap (in_front clash.prefix) (stops_at before o clash.behind kept was clash.differ) in
    (ap (λ p. p.clash) is, holds_all new before (putting held os) clash.adds.content (sym (ap (λ p. p.held) is)))

anything : (told : Option Held) → Tells told (λ held. Unit {0})
anything None = tt
anything (Some held) = tt

-- so what was added, by the answer, is what is put
pub puts_all : {A : Type 0} (os : List StoredObject) (old new : Storing) (done : A) → Adds os old.content new.content →
    Tells old.content (λ held. IsPutting (putting held os) new.content (Ok done))
puts_all os old new done adds = put_by old.content new.content os adds

pub puts : {A : Type 0} (os : List StoredObject) (old new : Storing) (r : Result A StoreFault) → Stores os old new r →
    Tells old.content (λ held. IsPutting (putting held os) new.content r)
puts os old new (Ok done) adds = put_by old.content new.content os adds
puts os old new (Err (StoreFailed note)) h = anything old.content
puts os old new (Err (Clash id kept bytes)) h = clash_by old.content new.content os id kept bytes h
puts os old new (Err (Missing other)) h = anything old.content
puts os old new (Err (BadObject other place)) h = anything old.content
puts os old new (Err (Tree fault)) h = anything old.content
puts os old new (Err (NoPath path)) h = anything old.content
puts os old new (Err NoMemory) h = anything old.content
