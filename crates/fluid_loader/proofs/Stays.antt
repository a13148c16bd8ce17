-- A container of a document stays one behind each call.
use Rattle.std.proofs.Common.{◌≡◌, inl, inr, ℕ, suc, ◌+◌, Bool, true, false, cond, List, [], ◌∷◌, ◌++◌, length, drop, Option, Some, None, Result, Ok, Err, All, zero, bytes_eq, refl, sym, ap, subst, ◌∙◌, arith, append-nil, length-append, length-drop}
use Rattle.std.specs.Option.{option_or}
use Rattle.std.specs.FinMap.{get, insert}
use Rattle.std.proofs.lemmas.List.Sums.{fold-append}
use Rattle.std.proofs.lemmas.Slice.Eq.{bytes_eq-Decides}
use Rattle.fluid_io.specs.Causes.{Tells}
use Rattle.fluid_types.specs.Ledger.{messages_of}
use Rattle.fluid_types.specs.Order.{AreNumberedFrom}
use Rattle.fluid_types.specs.declared.entries.Raw.{Raw}
use Rattle.fluid_types.specs.declared.entries.Submission.{Submission}
use Rattle.fluid_types.specs.declared.messages.Message.{Message}
use Rattle.fluid_types.specs.declared.verdicts.Verdict.{Verdict}
use Rattle.fluid_tree.specs.Summary.{Summary}
use Rattle.fluid_quorum.specs.After.{after}
use Rattle.fluid_readback.specs.Quorums.{IsReadAsItself}
use Rattle.fluid_readback.proofs.Each.{Each, each-all}
use Rattle.fluid_edits.specs.declared.edit.Edit.{Edit}
use Rattle.fluid_runtime.specs.App.{after_message}
use Rattle.fluid_store.specs.Held.{Held, Keeps}
use Rattle.fluid_store.specs.Putting.{Putting, behind as put_behind, put_first, putting}
use Rattle.fluid_store.specs.declared.listing.StoredObject.{StoredObject}
use Rattle.fluid_store.proofs.Added.{put_keeps, put_again}
use Rattle.fluid_loader.specs.Calls.{PumpDoes}
use Rattle.fluid_loader.specs.Container.{AContainer, acknowledged, taken_by, behind}
use Rattle.fluid_loader.specs.Laws.{between, AreAbreast, IsBehind, Grows, StaysBehind, StayBased}
use Rattle.fluid_loader.specs.Link as link
use Rattle.fluid_loader.specs.Link.{Document, IsOrder, IsDocument, Linked, BothTell, with_entry, Enters, MayEnter, PutsTree, PutsSome}
use Rattle.fluid_loader.specs.declared.link.Given.{Given}
use Rattle.fluid_loader.specs.declared.link.Given.TheVariants.{Taken, Nacked}
use Rattle.fluid_loader.specs.declared.link.LinkFault.{LinkFault}
use Rattle.fluid_loader.specs.declared.link.LinkFault.TheVariants.{Failed, Clash, NoMemory}
use Rattle.fluid_loader.specs.declared.fault.LoadFault.{LoadFault}
use Rattle.fluid_loader.proofs.Based.{grown_based}
use Rattle.fluid_loader.proofs.Orders.{prefix_numbered, drop_numbered, behind_number, each_prefix, each_drop, between_more, between_longer}
use Rattle.fluid_loader.proofs.Seen.{tells_then, tells_both}

-- ---- what both tell

pub both_then : (f g h : Document → Document → Type 0) → ((a b c : Document) → f a b → g b c → h a c) → (x y z : Option Document) → BothTell f x y → BothTell g y z → BothTell h x z
both_then f g h go None None None p q = tt
both_then f g h go None None (Some c) p q = absurd q
both_then f g h go None (Some b) z p q = absurd p
both_then f g h go (Some a) None z p q = absurd p
both_then f g h go (Some a) (Some b) None p q = absurd q
both_then f g h go (Some a) (Some b) (Some c) p q = go a b c p q

pub both_so : (f g : Document → Document → Type 0) → ((a b : Document) → f a b → g a b) → (x y : Option Document) → BothTell f x y → BothTell g x y
both_so f g go None None p = tt
both_so f g go None (Some b) p = absurd p
both_so f g go (Some a) None p = absurd p
both_so f g go (Some a) (Some b) p = go a b p

pub both_same : (f : Document → Document → Type 0) (x y : Option Document) → y ≡ x → Tells x (λ d. f d d) → BothTell f x y
both_same f x y same h = subst (BothTell f x) (sym same) (of x h)
  where
    of : (o : Option Document) → Tells o (λ d. f d d) → BothTell f o o
    of None k = tt
    of (Some d) k = k

-- ---- a document that has grown

keeps_same : (a b : Held) → b ≡ a → Keeps a b
keeps_same a b same = subst (Keeps a) (sym same) (λ id bytes is. is)

grows_same : (d e : Document) → e ≡ d → Grows d e
grows_same d e same = record { more = []; order = ap (λ (x : Document). x.order) same ∙ sym (append-nil d.order); held = keeps_same d.held e.held (ap (λ (x : Document). x.held) same) }

grows_by_entry : (raw : Raw) (said : Verdict) (d e : Document) → e ≡ with_entry raw said d → Grows d e
grows_by_entry raw said d e is = record { more = messages_of said; order = ap (λ (x : Document). x.order) is; held = keeps_same d.held e.held (ap (λ (x : Document). x.held) is) }

enters_grow : (raw : Raw) (answer : Given) (d e : Document) → Enters raw answer d e → Grows d e
enters_grow raw answer d e (inl entered) = grows_by_entry raw entered.1.0 d e entered.1.1.1
enters_grow raw answer d e (inr full) = grows_same d e full.1.1

may_enter_grow : (raw : Raw) (d e : Document) → MayEnter raw d e → Grows d e
may_enter_grow raw d e (inl same) = grows_same d e same
may_enter_grow raw d e (inr entered) = grows_by_entry raw entered.0 d e entered.1

keeps_then : (a b c : Held) → Keeps a b → Keeps b c → Keeps a c
keeps_then a b c h k id bytes is = k id bytes (h id bytes is)

pub putting_keeps : (held : Held) (os : List StoredObject) → Keeps held (putting held os).held
putting_keeps held [] = λ id bytes is. is
putting_keeps held (o ∷ os) = by_found (get held o.id) refl (putting_keeps (insert held o.id o.bytes) os)
  where
    later : Putting
    later = putting (insert held o.id o.bytes) os

    by_same : (kept : List ℕ) (b : Bool) → bytes_eq kept o.bytes ≡ b → get held o.id ≡ Some kept → Keeps (insert held o.id o.bytes) later.held
        → Keeps held (cond b (put_behind o later) (record { held = held; put = []; clash = Some (record { id = o.id; kept = kept; bytes = o.bytes }) })).held
    by_same kept true own is keeps =
        let again : insert held o.id o.bytes ≡ held = put_again held o.id o.bytes (is ∙ ap Some ((bytes_eq-Decides kept o.bytes).0 own)) in
        subst (λ (h : Held). Keeps h later.held) again keeps
    by_same kept false other is keeps = λ id bytes here. here

    by_found : (found : Option (List ℕ)) → get held o.id ≡ found → Keeps (insert held o.id o.bytes) later.held → Keeps held (put_first held o found later).held
    by_found None none keeps = keeps_then held (insert held o.id o.bytes) later.held (put_keeps held o.id o.bytes none) keeps
    by_found (Some kept) is keeps = by_same kept (bytes_eq kept o.bytes) refl is keeps

grows_by_store : (d e : Document) (held : Held) → e ≡ record d { held = held } → Keeps d.held held → Grows d e
grows_by_store d e held is keeps = record {
  more = [];
  order = ap (λ (x : Document). x.order) is ∙ sym (append-nil d.order);
  held = subst (Keeps d.held) (sym (ap (λ (x : Document). x.held) is)) keeps;
}

puts_grow : (node : Summary) (base : Option (List ℕ)) (r : Result (List ℕ) LinkFault) (d e : Document) → PutsTree node base r d e → Grows d e
puts_grow node base r d e h = grows_by_store d e (putting d.held h.objects).held h.held (putting_keeps d.held h.objects)

some_grow : (node : Summary) (base : Option (List ℕ)) (d e : Document) → PutsSome node base d e → Grows d e
some_grow node base d e h = record {
  more = [];
  order = ap (λ (x : Document). x.order) h.held ∙ sym (append-nil d.order);
  held = h.kept;
}

pub submits_grow : (s : Submission) (old new : Linked) (r : Result Given LinkFault) → link.Submits s old new r → BothTell Grows old.told new.told
submits_grow s old new (Ok Taken) h = both_so _ Grows (enters_grow (link.entry_of old s) Taken) old.told new.told h.says.1
submits_grow s old new (Ok (Nacked nack)) h = both_so _ Grows (enters_grow (link.entry_of old s) (Nacked nack)) old.told new.told h.says.1.1
submits_grow s old new (Err Failed) h = both_so _ Grows (may_enter_grow (link.entry_of old s)) old.told new.told h.says.1.document
submits_grow s old new (Err (Clash id kept bytes)) h = absurd h.says
submits_grow s old new (Err NoMemory) h = both_so _ Grows (may_enter_grow (link.entry_of old s)) old.told new.told h.says.document

pub uploads_grow : (node : Summary) (base : Option (List ℕ)) (old new : Linked) (r : Result (List ℕ) LinkFault) → link.Uploads node base old new r → BothTell Grows old.told new.told
uploads_grow node base old new (Ok id) h = both_so _ Grows (puts_grow node base (Ok id)) old.told new.told h.says.1.0
uploads_grow node base old new (Err Failed) h = both_so _ Grows (some_grow node base) old.told new.told h.says.1
uploads_grow node base old new (Err (Clash id kept bytes)) h = both_so _ Grows (puts_grow node base (Err (Clash id kept bytes))) old.told new.told h.says.1
uploads_grow node base old new (Err NoMemory) h = both_so _ Grows (some_grow node base) old.told new.told h.says

-- ---- a container of it

abreast_behind : (client : List ℕ) (c d : AContainer) (ms : List Message) → AreAbreast c d → AreAbreast (behind client c ms) (behind client d ms)
abreast_behind client c d [] h = h
abreast_behind client c d (m ∷ ms) h =
    abreast_behind client (taken_by client c m) (taken_by client d m) ms
    (record {
      channels = ap (λ ch. after_message ch m) h.channels;
      quorum = ap (λ q. after q m) h.quorum;
      number = refl;
      head = ap (λ head. option_or (acknowledged m) head) h.head;
    })

pub behind_grown : (client : List ℕ) (first c : AContainer) (d e : Document) → Grows d e → IsBehind client first d c → IsBehind client first e c
behind_grown client first c d e g b =
    let same : between first.number c.number e.order ≡ between first.number c.number d.order =
    ap (between first.number c.number) g.order ∙ between_longer first.number c.number d.order g.more b.begins b.within in
    record {
      begins = b.begins;
      within = omega (arith, b.within, ap length g.order, length-append d.order g.more);
      abreast = subst (λ ms. AreAbreast c (behind client first ms)) (sym same) b.abreast;
      based = grown_based d.held e.held c g.held b.based;
    }

-- with other edits and another client number
pub behind_own : (client : List ℕ) (first c : AContainer) (d : Document) (pending : List Edit) (last : ℕ) → IsBehind client first d c → IsBehind client first d (record c { pending = pending; last = last })
behind_own client first c d pending last b = record {
  begins = b.begins;
  within = b.within;
  abreast = record { channels = b.abreast.channels; quorum = b.abreast.quorum; number = b.abreast.number; head = b.abreast.head };
  based = record { named = b.based.named; on = b.based.on };
}

all_back : (ms : List Message) → Each IsReadAsItself ms → All IsReadAsItself ms
all_back [] h = λ k d lt. absurd (omega (arith, lt))
all_back (m ∷ ms) h = of (all_back ms h.1)
  where
    of : All IsReadAsItself ms → All IsReadAsItself (m ∷ ms)
    of later zero d lt = h.0
    of later (suc k) d lt = later k d (omega (arith, lt))

-- behind the next messages of the order
pub behind_more : StayBased → (client : List ℕ) (first c : AContainer) (d : Document) (prefix ahead : List Message) → IsDocument d → drop c.number d.order ≡ prefix ++ ahead → IsBehind client first d c
    → IsBehind client first d (behind client c prefix)
behind_more law client first c d prefix ahead is split b =
    let n = c.number in
    let order = d.order in
    let next = behind client c prefix in
    let start : 1 + n ≡ suc n = omega arith in
    let numbered : AreNumberedFrom (suc n) prefix = prefix_numbered (suc n) prefix ahead (subst (AreNumberedFrom (suc n)) split (subst (λ k. AreNumberedFrom k (drop n order)) start (drop_numbered 1 n order is.in_order.numbered))) in
    let number : next.number ≡ n + length prefix = behind_number client prefix c n refl numbered in
    let back : Each IsReadAsItself prefix = each_prefix IsReadAsItself prefix ahead (subst (Each IsReadAsItself) split (each_drop IsReadAsItself n order (each-all IsReadAsItself order is.in_order.read_back))) in
    let earlier = between first.number n order in
    let whole : behind client (behind client first earlier) prefix ≡ behind client first (between first.number next.number order) =
    sym (fold-append (taken_by client) first earlier prefix) ∙ ap (behind client first) (sym (between_more first.number n order prefix ahead b.begins split) ∙ ap (λ k. between first.number k order) (sym number)) in
    record {
      begins = omega (arith, number, b.begins);
      within = omega (arith, number, b.within, ap length split, length-append prefix ahead, length-drop n order);
      abreast = subst (AreAbreast next) whole (abreast_behind client c (behind client first earlier) prefix b.abreast);
      based = law.behind_messages d.held client c prefix (all_back prefix back) b.based;
    }

-- ---- a pump

pub stays_pumped : StayBased → (old new : AContainer) (before after : Linked) (prefix : List Message) → after.told ≡ before.told → Tells before.told IsDocument → new ≡ behind before.client old prefix
    → Tells before.told (λ d. (ahead : List Message) × (drop old.number d.order ≡ prefix ++ ahead)) → StaysBehind old new before after
stays_pumped law old new before after prefix same is made split first =
    both_same (λ d e. IsBehind before.client first d old → IsBehind before.client first e new) before.told after.told same
    (tells_both before.told IsDocument (λ d. (ahead : List Message) × (drop old.number d.order ≡ prefix ++ ahead)) (λ d. IsBehind before.client first d old → IsBehind before.client first d new)
    (λ d doc s b. subst (IsBehind before.client first d) (sym made) (behind_more law before.client first old d prefix s.0 doc s.1 b)) is split)

pub pump_stays : StayBased → (old new : AContainer) (before after : Linked) (r : Result ℕ LoadFault) → after.told ≡ before.told → Tells before.told IsDocument → PumpDoes old new before after r → StaysBehind old new before after
pump_stays law old new before after (Ok number) same is h =
    stays_pumped law old new before after h.1.0 same is h.1.1.1
    (tells_then before.told (λ d. drop old.number d.order ≡ h.1.0) (λ d. (ahead : List Message) × (drop old.number d.order ≡ h.1.0 ++ ahead)) (λ d k. ([], k ∙ sym (append-nil h.1.0))) h.1.1.0.told)
pump_stays law old new before after (Err fault) same is h = stays_pumped law old new before after h.1.0 same is h.1.1.0 h.1.1.1
