-- Ids of one level that were looked at.
use Rattle.std.proofs.Common.{◌≡◌, ℕ, zero, suc, ◌+◌, ◌-◌, ◌*◌, ◌<◌, ◌≤◌, List, [], ◌∷◌, ◌++◌, length, get_or, take, Bool, true, false, cond, ◌&&◌, is_some, IsSome, Option, Some, None, Ok, Err, Ordering, Less, Equal, Greater, refl, sym, ap, subst, ◌∙◌, arith, append_assoc, append-nil, length-append}
use Rattle.std.specs.List.{list_all, IsDistinct, AllByRecursion}
use Rattle.std.specs.Ordering.{match_ordering, eq_by_cmp}
use Rattle.std.specs.Cmp.{eq_by_cmp_equiv}
use Rattle.std.specs.BTreeSet.{insert_key}
use Rattle.std.specs.FinMap.{get, remove, len, empty, get-remove, get-empty, len-remove, empty_of_len}
use Rattle.std.specs.Prelude.{option_and_then}
use Rattle.std.specs.Result.{result_ok}
use Rattle.fluid_tree.specs.Reading.{object_read}
use Rattle.fluid_tree.specs.declared.fault.TreeFault.{TreeFault}
use Rattle.std.specs.List.Sorted.{IsStrictlySortedBy}
use Rattle.std.proofs.Math.Nat.{mul-le-mul_left}
use Rattle.std.proofs.lemmas.List.{take_more}
use Rattle.std.proofs.lemmas.List.Folds.{list_all-append}
use Rattle.std.proofs.lemmas.Map.Keys.{IsDistinct-from_sorted}
use Rattle.fluid_io.specs.Causes.{Tells}
use Rattle.fluid_tree.specs.declared.object.Object.{Object}
use Rattle.fluid_tree.specs.declared.object.Object.TheVariants.{Blob, Tree}
use Rattle.fluid_tree.specs.declared.object.ObjectEntry.{ObjectEntry}
use Rattle.fluid_store.specs.Held.{byte_order, Held}
use Rattle.fluid_store.specs.Storing.{Storing, IsCounted}
use Rattle.fluid_store.specs.Standing.{object_at}
use Rattle.fluid_store.specs.Fetching.{Reads, Finds, found}
use Rattle.fluid_store.specs.declared.fault.StoreFault.{StoreFault}
use Rattle.fluid_store.specs.declared.fault.StoreFault.TheVariants.{Missing, BadObject, Tree as OfTree}
use Rattle.fluid_store.specs.Complete.{is_whole_blob, is_whole, is_complete, all_complete, ids_of, EntriesSay, FindsEntries}
use Rattle.fluid_store.proofs.Maps.{byte_order_total, byte_order-IsAntisymmetric}
use Rattle.fluid_store.proofs.Fetched.{tells_then, tells_both, tells_of, object_found, none_found}

-- ---- tests of all

and_swap : (a b c : Bool) → (a && (b && c)) ≡ (b && (a && c))
and_swap true true c = refl
and_swap true false c = refl
and_swap false true c = refl
and_swap false false c = refl

and_again : (a b : Bool) → (a && b) ≡ (a && (a && b))
and_again true b = refl
and_again false b = refl

and_comm : (a b : Bool) → (a && b) ≡ (b && a)
and_comm true true = refl
and_comm true false = refl
and_comm false true = refl
and_comm false false = refl

and_assoc : (a b c : Bool) → (a && (b && c)) ≡ ((a && b) && c)
and_assoc true b c = refl
and_assoc false b c = refl

and-true : (a : Bool) → (a && true) ≡ a
and-true true = refl
and-true false = refl

and-false : (a b : Bool) → (a && (false && b)) ≡ false
and-false true b = refl
and-false false b = refl

-- a key is among the keys where it was added
pub all_inserted : (test : List ℕ → Bool) (ks : List (List ℕ)) (k : List ℕ) → list_all test (insert_key byte_order ks k) ≡ (test k && list_all test ks)
all_inserted test [] k = refl
all_inserted test (x ∷ xs) k =
    by_place (byte_order k x) refl (all_inserted test xs k)
  where
    by_place : (o : Ordering) → byte_order k x ≡ o → list_all test (insert_key byte_order xs k) ≡ (test k && list_all test xs)
        → list_all test (match_ordering o (k ∷ x ∷ xs) (x ∷ xs) (x ∷ insert_key byte_order xs k)) ≡ (test k && (test x && list_all test xs))
    by_place Less e rest = refl
    by_place Equal e rest = and_again (test x) (list_all test xs) ∙ ap (λ y. test y && (test x && list_all test xs)) (sym (byte_order-IsAntisymmetric k x e))
    by_place Greater e rest = ap (λ b. test x && b) rest ∙ and_swap (test x) (test k) (list_all test xs)

pub all_ids : (test : List ℕ → Bool) (entries : List ObjectEntry) → list_all test (ids_of entries) ≡ list_all (λ entry. test entry.id) entries
all_ids test [] = refl
all_ids test (e ∷ entries) = ap (λ b. test e.id && b) (all_ids test entries)

pub ids_more : (test : List ℕ → Bool) (old now more : List (List ℕ)) (entries : List ObjectEntry) (i : ℕ) (entry : ObjectEntry) → i < length entries → entry ≡ get_or entries i entry → more ≡ insert_key byte_order now entry.id
    → list_all test now ≡ (list_all test old && list_all test (ids_of (take i entries))) → list_all test more ≡ (list_all test old && list_all test (ids_of (take (i + 1) entries)))
ids_more test old now more entries i entry lt is grown h =
    let all : take (i + 1) entries ≡ take i entries ++ entry ∷ [] = take_more entries i entry lt ∙ ap (λ x. take i entries ++ x ∷ []) (sym is) in
    let ids : list_all test (ids_of (take (i + 1) entries)) ≡ (list_all test (ids_of (take i entries)) && test entry.id) =
    all_ids test (take (i + 1) entries) ∙ ap (list_all (λ e. test e.id)) all ∙ list_all-append (λ (e : ObjectEntry). test e.id) (take i entries) (entry ∷ [])
    ∙ ap (λ b. list_all (λ e. test e.id) (take i entries) && b) (and-true (test entry.id)) ∙ ap (λ b. b && test entry.id) (sym (all_ids test (take i entries))) in
    ap (list_all test) grown ∙ all_inserted test now entry.id ∙ ap (λ b. test entry.id && b) h ∙ and_comm (test entry.id) (list_all test old && list_all test (ids_of (take i entries)))
    ∙ sym (and_assoc (list_all test old) (list_all test (ids_of (take i entries))) (test entry.id)) ∙ ap (λ b. list_all test old && b) (sym ids)

-- ---- what is complete

pub complete_blob : (held : Held) (id : List ℕ) → is_complete held zero id ≡ is_whole_blob (object_at held id)
unfolding is_complete
complete_blob held id = refl

pub complete_more : (held : Held) (n : ℕ) (id : List ℕ) → is_complete held (suc n) id ≡ is_whole (is_complete held n) (object_at held id)
unfolding is_complete
complete_more held n id = refl

-- ---- no more ids are held than there are objects

abbrev pub AllHeld : Held → List (List ℕ) → Type 0
AllHeld held [] = Unit {0}
AllHeld held (k ∷ ks) = (is_some (get held k) ≡ true) × AllHeld held ks

abbrev pub AreApart : List (List ℕ) → Type 0
AreApart [] = Unit {0}
AreApart (k ∷ ks) = AllByRecursion (λ y. eq_by_cmp byte_order k y ≡ false) ks × AreApart ks

from_distinct : (ks : List (List ℕ)) → IsDistinct (eq_by_cmp byte_order) ks → AreApart ks
unfolding IsDistinct
from_distinct [] h = tt
from_distinct (k ∷ ks) h = (h.0, from_distinct ks h.1)

pub apart_from : (ks : List (List ℕ)) → IsStrictlySortedBy byte_order ks → AreApart ks
apart_from ks h = from_distinct ks (IsDistinct-from_sorted byte_order ks h)

flipped : (a b : List ℕ) → eq_by_cmp byte_order a b ≡ false → eq_by_cmp byte_order b a ≡ false
flipped a b h = (eq_by_cmp_equiv byte_order_total).symm b a ∙ h

held_without : (held : Held) (k : List ℕ) (ks : List (List ℕ)) → AllByRecursion (λ y. eq_by_cmp byte_order k y ≡ false) ks → AllHeld held ks → AllHeld (remove held k) ks
held_without held k [] apart h = tt
held_without held k (y ∷ ys) apart h =
    (ap is_some (get-remove byte_order_total held k y ∙ ap (λ b. cond b None (get held y)) (flipped k y apart.0)) ∙ h.0, held_without held k ys apart.1 h.1)

some_held : (held : Held) (k : List ℕ) → is_some (get held k) ≡ true → 0 < len held
some_held held k h = by_len (len held) refl
  where
    by_len : (n : ℕ) → len held ≡ n → 0 < len held
    by_len zero e = let none : is_some (get held k) ≡ false = ap is_some (ap (λ m. get m k) (empty_of_len held e) ∙ get-empty byte_order k) in cc
    by_len (suc n) e = omega (arith, e)

pub few_held : (ks : List (List ℕ)) (held : Held) → AreApart ks → AllHeld held ks → length ks ≤ len held
few_held [] held apart h = omega arith
few_held (k ∷ ks) held apart h =
    let rest = few_held ks (remove held k) apart.1 (held_without held k ks apart.0 h.1) in
    let less : len (remove held k) ≡ len held - 1 = len-remove byte_order_total held k ∙ ap (λ b. cond b (len held - 1) (len held)) h.0 in
    let some = some_held held k h.0 in
    omega (arith, rest, less, some)

-- ---- the object under one id

some_object : (found : Option (List ℕ)) (o : Object) → option_and_then (λ bytes. result_ok (object_read bytes)) found ≡ Some o → IsSome found
some_object None o h = cc
some_object (Some bytes) o h = refl

pub no_object : (found : Option (List ℕ)) → found ≡ None → option_and_then (λ bytes. result_ok (object_read bytes)) found ≡ None
no_object found h = ap (option_and_then (λ bytes. result_ok (object_read bytes))) h

pub not_complete : (held : Held) (trees : ℕ) (id : List ℕ) → object_at held id ≡ None → is_complete held trees id ≡ false
not_complete held zero id h = complete_blob held id ∙ ap is_whole_blob h
not_complete held (suc n) id h = complete_more held n id ∙ ap (is_whole (is_complete held n)) h

pub blob_complete : (held : Held) (trees : ℕ) (id content : List ℕ) → object_at held id ≡ Some (Blob content) → is_complete held trees id ≡ all_complete held trees []
blob_complete held zero id content h = complete_blob held id ∙ ap is_whole_blob h
blob_complete held (suc n) id content h = complete_more held n id ∙ ap (is_whole (is_complete held n)) h

tree_complete : (held : Held) (n : ℕ) (id : List ℕ) (entries : List ObjectEntry) → object_at held id ≡ Some (Tree entries) → is_complete held (suc n) id ≡ all_complete held (suc n) (ids_of entries)
tree_complete held n id entries h = complete_more held n id ∙ ap (is_whole (is_complete held n)) h ∙ sym (all_ids (is_complete held n) entries)

module _ (id : List ℕ) (old new : Storing) where
  pub blob_entries : (trees : ℕ) (object : Object) (content : List ℕ) (none : List ObjectEntry) → Finds id old new (Ok object) → object ≡ Blob content → none ≡ [] → FindsEntries trees id old new (Ok (Some none))
  blob_entries trees object content none f is empty = record {
    content = f.content;
    faults = f.faults;
    gets = f.gets;
    says =
        subst (λ es. EntriesSay trees id old new (Ok (Some es))) (sym empty)
        (tells_then old.content (λ held. Ok object ≡ found held id) (λ held. IsSome (get held id) × (is_complete held trees id ≡ all_complete held trees (ids_of [])))
        (λ held k. let h = object_found held id object k in (some_object (get held id) object h, blob_complete held trees id content (h ∙ ap Some is))) f.says);
  }

  pub tree_entries : (trees : ℕ) (object : Object) (entries : List ObjectEntry) → 0 < trees → Finds id old new (Ok object) → object ≡ Tree entries → FindsEntries trees id old new (Ok (Some entries))
  tree_entries zero object entries some f is = absurd (omega arith)
  tree_entries (suc n) object entries some f is = record {
    content = f.content;
    faults = f.faults;
    gets = f.gets;
    says =
        tells_then old.content (λ held. Ok object ≡ found held id) (λ held. IsSome (get held id) × (is_complete held (suc n) id ≡ all_complete held (suc n) (ids_of entries)))
        (λ held k. let h = object_found held id object k in (some_object (get held id) object h, tree_complete held n id entries (h ∙ ap Some is))) f.says;
  }

  pub tree_too_deep : (trees : ℕ) (object : Object) (entries : List ObjectEntry) → trees ≡ 0 → Finds id old new (Ok object) → object ≡ Tree entries → FindsEntries trees id old new (Ok None)
  tree_too_deep (suc n) object entries none f is = absurd (omega (arith, none))
  tree_too_deep zero object entries none f is = record {
    content = f.content;
    faults = f.faults;
    gets = f.gets;
    says =
        tells_then old.content (λ held. Ok object ≡ found held id) (λ held. is_complete held zero id ≡ false)
        (λ held k. complete_blob held id ∙ ap is_whole_blob (object_found held id object k ∙ ap Some is)) f.says;
  }

  none_there : (trees : ℕ) (fault : StoreFault) → new.content ≡ old.content → old.faults ≤ new.faults → IsCounted old.gets new.gets → Tells old.content (λ held. Err fault ≡ found held id) → FindsEntries trees id old new (Ok None)
  none_there trees fault same later counted h = record {
    content = same;
    faults = later;
    gets = counted;
    says =
        tells_then old.content (λ held. Err fault ≡ found held id) (λ held. is_complete held trees id ≡ false)
        (λ held k. not_complete held trees id (none_found held id fault k)) h;
  }

  pub nothing_there : (trees : ℕ) (missing : List ℕ) → Finds id old new (Err (Missing missing)) → FindsEntries trees id old new (Ok None)
  nothing_there trees missing f = none_there trees (Missing missing) f.content f.faults f.gets f.says

  pub no_grammar : (trees : ℕ) (bad : List ℕ) (place : ℕ) → Finds id old new (Err (BadObject bad place)) → FindsEntries trees id old new (Ok None)
  no_grammar trees bad place f = none_there trees (BadObject bad place) f.content f.faults f.gets f.says

  pub no_object_there : (trees : ℕ) (fault : TreeFault) → Finds id old new (Err (OfTree fault)) → FindsEntries trees id old new (Ok None)
  no_object_there trees fault f = none_there trees (OfTree fault) f.content f.faults f.gets f.says

-- ---- the ids of a level, one after the other

-- those that were done are held, and all below them is where all below the next level is
pub record Looked (trees : ℕ) (level left next : List (List ℕ)) (old new : Storing) : Type 0 where
  pub done : List (List ℕ)
  pub splits : level ≡ done ++ left
  pub reads : Reads old new
  pub gets : new.gets ≤ old.gets + length done
  pub are_held : Tells old.content (λ held. AllHeld held done)
  pub answer : Tells old.content (λ held. all_complete held (suc trees) done ≡ all_complete held trees next)

held_more : (held : Held) (done : List (List ℕ)) (id : List ℕ) → AllHeld held done → IsSome (get held id) → AllHeld held (done ++ id ∷ [])
held_more held [] id h some = (some, tt)
held_more held (k ∷ ks) id h some = (h.0, held_more held ks id h.1 some)

-- the ids of the entries were added to those of the next level
abbrev pub AddsIds : List (List ℕ) → List (List ℕ) → List ObjectEntry → Type 0
AddsIds before now entries = (test : List ℕ → Bool) → list_all test now ≡ (list_all test before && list_all test (ids_of entries))

added_ids : (held : Held) (trees : ℕ) (before now : List (List ℕ)) (entries : List ObjectEntry) → AddsIds before now entries → all_complete held trees now ≡ (all_complete held trees before && all_complete held trees (ids_of entries))
added_ids held zero before now entries adds = refl
added_ids held (suc n) before now entries adds = adds (is_complete held n)

module _ (trees : ℕ) (level left next : List (List ℕ)) (old mid new : Storing) (id : List ℕ) (looked : Looked trees level (id ∷ left) next old mid) where
  reads_on : new.content ≡ mid.content → mid.faults ≤ new.faults → IsCounted mid.gets new.gets → Reads old new
  reads_on same later counted = record {
    content = same ∙ looked.reads.content;
    faults = omega (arith, looked.reads.faults, later);
    gets = omega (arith, looked.reads.gets, counted.later);
  }

  pub looked_more : (more : List (List ℕ)) (entries : List ObjectEntry) → FindsEntries trees id mid new (Ok (Some entries)) → AddsIds next more entries → Looked trees level left more old new
  looked_more more entries f adds =
      let said = tells_of old.content mid.content (λ held. IsSome (get held id) × (is_complete held trees id ≡ all_complete held trees (ids_of entries))) looked.reads.content f.says in
      record {
        done = looked.done ++ id ∷ [];
        splits = looked.splits ∙ sym (append_assoc looked.done (id ∷ []) left);
        reads = reads_on f.content f.faults f.gets;
        gets = omega (arith, looked.gets, f.gets.most, length-append looked.done (id ∷ []));
        are_held = tells_both old.content (λ held. AllHeld held looked.done) _ (λ held. AllHeld held (looked.done ++ id ∷ [])) (λ held h s. held_more held looked.done id h s.0) looked.are_held said;
        answer =
            tells_both old.content (λ held. all_complete held (suc trees) looked.done ≡ all_complete held trees next) _ (λ held. all_complete held (suc trees) (looked.done ++ id ∷ []) ≡ all_complete held trees more)
            (λ held h s.
            list_all-append (is_complete held trees) looked.done (id ∷ [])
            ∙ ap (λ b. list_all (is_complete held trees) looked.done && b) (and-true (is_complete held trees id))
            ∙ ap (λ b. b && is_complete held trees id) h
            ∙ ap (λ b. all_complete held trees next && b) s.1
            ∙ sym (added_ids held trees next more entries adds))
            looked.answer said;
      }

  pub looked_none : FindsEntries trees id mid new (Ok None) → Tells old.content (λ held. all_complete held (suc trees) level ≡ false)
  looked_none f =
      tells_then old.content (λ held. is_complete held trees id ≡ false) _
      (λ held h.
      ap (list_all (is_complete held trees)) looked.splits
      ∙ list_all-append (is_complete held trees) looked.done (id ∷ left)
      ∙ ap (λ b. list_all (is_complete held trees) looked.done && (b && list_all (is_complete held trees) left)) h
      ∙ and-false (list_all (is_complete held trees) looked.done) (list_all (is_complete held trees) left))
      (tells_of old.content mid.content (λ held. is_complete held trees id ≡ false) looked.reads.content f.says)

apart_prefix : (done left : List (List ℕ)) → AreApart (done ++ left) → AreApart done
apart_prefix [] left h = tt
apart_prefix (k ∷ ks) left h = (prefix_apart ks h.0, apart_prefix ks left h.1)
  where
    prefix_apart : (ks : List (List ℕ)) → AllByRecursion (λ y. eq_by_cmp byte_order k y ≡ false) (ks ++ left) → AllByRecursion (λ y. eq_by_cmp byte_order k y ≡ false) ks
    prefix_apart [] g = tt
    prefix_apart (y ∷ ys) g = (g.0, prefix_apart ys g.1)

-- no more gets than one more than the objects held
pub looked_bound : (trees : ℕ) (level left next : List (List ℕ)) (old mid new : Storing) → IsStrictlySortedBy byte_order level → Looked trees level left next old mid → new.gets ≤ mid.gets + 1
    → Tells old.content (λ held. new.gets ≤ old.gets + (len held + 1))
looked_bound trees level left next old mid new sorted looked most =
    let apart = apart_prefix looked.done left (subst AreApart looked.splits (apart_from level sorted)) in
    tells_then old.content (λ held. AllHeld held looked.done) _ (λ held h. omega (arith, few_held looked.done held apart h, looked.gets, most)) looked.are_held

-- ---- level by level

module _ (id : List ℕ) (old mid new : Storing) (above : ℕ) (level : List (List ℕ)) (lt : above < 33) (same : mid.content ≡ old.content) where
  pub gets_more : Tells old.content (λ held. mid.gets ≤ old.gets + above * (len held + 1)) → Tells mid.content (λ held. new.gets ≤ mid.gets + (len held + 1)) → Tells old.content (λ held. new.gets ≤ old.gets + (above + 1) * (len held + 1))
  gets_more h k =
      tells_both old.content (λ held. mid.gets ≤ old.gets + above * (len held + 1)) (λ held. new.gets ≤ mid.gets + (len held + 1)) (λ held. new.gets ≤ old.gets + (above + 1) * (len held + 1))
      (λ held a b. omega (arith, a, b)) h (tells_of old.content mid.content _ same k)

-- as many levels were looked at as there may be, or fewer
pub gets_all : (old now : Storing) (levels : ℕ) → levels ≤ 33 → Tells old.content (λ held. now.gets ≤ old.gets + levels * (len held + 1)) → Tells old.content (λ held. now.gets ≤ old.gets + 33 * (len held + 1))
gets_all old now levels few h =
    tells_then old.content (λ held. now.gets ≤ old.gets + levels * (len held + 1)) (λ held. now.gets ≤ old.gets + 33 * (len held + 1)) (λ held a. omega (arith, a, mul-le-mul_left (len held + 1) few)) h
