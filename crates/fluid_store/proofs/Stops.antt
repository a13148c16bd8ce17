-- Many objects put, one after the other, and where that ends.
use Rattle.std.proofs.Common.{◌≡◌, ℕ, ◌+◌, ◌<◌, List, [], ◌∷◌, ◌++◌, length, get_or, take, drop, Option, Result, Ok, Err, refl, sym, ap, subst, ◌∙◌, arith, append_assoc}
use Rattle.std.specs.Result.{IsErrAnd}
use Rattle.std.proofs.lemmas.List.{at_drop_more, take_more, take-append-drop}
use Rattle.fluid_store.specs.Held.{Held}
use Rattle.fluid_store.specs.Storing.{Storing}
use Rattle.fluid_store.specs.Keeping.{Counts, Adds, AddsPrefix, StopsBy, Stores}
use Rattle.fluid_store.specs.declared.listing.StoredObject.{StoredObject}
use Rattle.fluid_store.specs.declared.fault.StoreFault.{StoreFault}
use Rattle.fluid_store.specs.declared.fault.StoreFault.TheVariants.{StoreFailed, Clash, Missing, BadObject, Tree, NoPath, NoMemory}
use Rattle.fluid_store.proofs.Added.{adds_nothing, adds_more}

regroup : (done prefix behind rest : List StoredObject) → done ++ ((prefix ++ behind) ++ rest) ≡ (done ++ prefix) ++ (behind ++ rest)
regroup done prefix behind rest = ap (λ l. done ++ l) (append_assoc prefix behind rest) ∙ sym (append_assoc done prefix (behind ++ rest))

module _ (all done os rest : List StoredObject) (splits : all ≡ done ++ (os ++ rest)) (old mid new : Storing) (counts : Counts old mid) (adds : Adds done old.content mid.content) where
  prefix_later : AddsPrefix os mid.content new.content → AddsPrefix all old.content new.content
  prefix_later f = record {
    prefix = done ++ f.prefix;
    behind = f.behind ++ rest;
    splits = splits ∙ ap (λ l. done ++ (l ++ rest)) f.splits ∙ regroup done f.prefix f.behind rest;
    adds = adds_more done f.prefix old.content mid.content new.content adds f.adds;
  }

  -- a fault in some objects that stand behind others is one in all of them
  pub stops_later : (fault : StoreFault) → StopsBy os mid new fault → StopsBy all old new fault
  stops_later (StoreFailed note) h = (record { before = omega (arith, counts.faults, h.0.before); after = h.0.after; rose = h.0.rose }, prefix_later h.1)
  stops_later (Clash id kept bytes) h = record {
    prefix = done ++ h.prefix;
    behind = h.behind ++ rest;
    splits = splits ∙ ap (λ l. done ++ (l ++ rest)) h.splits ∙ regroup done h.prefix (record { id = id; bytes = bytes } ∷ h.behind) rest;
    adds = adds_more done h.prefix old.content mid.content new.content adds h.adds;
    was = h.was;
    differ = h.differ;
  }
  stops_later (Missing other) h = absurd h
  stops_later (BadObject other place) h = absurd h
  stops_later (Tree fault) h = absurd h
  stops_later (NoPath path) h = absurd h
  stops_later NoMemory h = prefix_later h

-- nothing was put yet
pub nothing_put : (os : List StoredObject) (content : Option Held) → AddsPrefix os content content
nothing_put os content = record { prefix = []; behind = os; splits = refl; adds = adds_nothing content }

-- ---- one more object of a list

split_at : (all : List StoredObject) (i : ℕ) (o : StoredObject) → i < length all → o ≡ get_or all i o → all ≡ take i all ++ (o ∷ [] ++ drop (i + 1) all)
split_at all i o lt is =
    let rest : drop i all ≡ o ∷ drop (i + 1) all = at_drop_more (λ l. l) all i o lt ∙ ap (λ x. x ∷ drop (i + 1) all) (sym is) in
    sym (take-append-drop i all) ∙ ap (λ l. take i all ++ l) rest

take_one : (all : List StoredObject) (i : ℕ) (o : StoredObject) → i < length all → o ≡ get_or all i o → take (i + 1) all ≡ take i all ++ o ∷ []
take_one all i o lt is = take_more all i o lt ∙ ap (λ x. take i all ++ x ∷ []) (sym is)

module _ (all : List StoredObject) (i : ℕ) (o : StoredObject) (lt : i < length all) (is : o ≡ get_or all i o) (old mid new : Storing) (counts : Counts old mid) (adds : Adds (take i all) old.content mid.content) where
  pub one_stops : (fault : StoreFault) → StopsBy (o ∷ []) mid new fault → StopsBy all old new fault
  one_stops = stops_later all (take i all) (o ∷ []) (drop (i + 1) all) (split_at all i o lt is) old mid new counts adds

  pub one_added : Adds (o ∷ []) mid.content new.content → Adds (take (i + 1) all) old.content new.content
  one_added more = subst (λ l. Adds l old.content new.content) (sym (take_one all i o lt is)) (adds_more (take i all) (o ∷ []) old.content mid.content new.content adds more)

pub handed_on : {A : Type 0} (os : List StoredObject) (old new : Storing) (r : Result A StoreFault) (e : StoreFault) → IsErrAnd r (λ x. x ≡ e) → StopsBy os old new e → Stores os old new r
handed_on os old new (Ok a) e h s = absurd h
handed_on os old new (Err x) e h s = subst (StopsBy os old new) (sym h) s
