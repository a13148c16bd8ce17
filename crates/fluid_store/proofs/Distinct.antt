-- No two nodes of a tree have one key, so the objects of none of them are lost in their order.
use Rattle.std.proofs.Common.{◌≡◌, ◌≢◌, ℕ, ◌==◌, ◌||◌, List, [], ◌∷◌, ◌++◌, fold, Bool, true, false, cond, Some, None, refl, sym, ap, subst, ◌∙◌}
use Rattle.std.specs.Prelude.{codes}
use Rattle.std.specs.List.{list_any}
use Rattle.std.specs.Ordering.{eq_by_cmp}
use Rattle.std.specs.Str.{bytes_eq}
use Rattle.std.specs.FinMap.Entries.{put, find, find-put}
use Rattle.std.proofs.lemmas.Bool.{or_parts}
use Rattle.std.proofs.lemmas.List.{append_cancel_right}
use Rattle.std.proofs.lemmas.List.Folds.{list_any-append}
use Rattle.std.proofs.lemmas.Slice.Eq.{bytes_eq-Decides}
use Rattle.fluid_tree.specs.Names.{is_bad, is_refused, first_refused}
use Rattle.fluid_tree.specs.Summary.{Summary, Children, no_children, child, is_tree, names}
use Rattle.fluid_tree.specs.Object.{sort_key}
use Rattle.fluid_store.specs.Held.{byte_order, Held}
use Rattle.fluid_store.specs.Keeping.{Holds}
use Rattle.fluid_store.specs.Listed.{Keyed, in_key_order, joined, objects, keyed}
use Rattle.fluid_store.specs.declared.listing.StoredObject.{StoredObject}
use Rattle.fluid_store.proofs.Maps.{byte_order_total}
use Rattle.fluid_store.proofs.Added.{same_key, itself}

-- ---- keys

abbrev pub NotIn : List ℕ → Keyed → Type 0
NotIn k [] = Unit {0}
NotIn k (p ∷ ps) = (k ≢ p.0) × NotIn k ps

abbrev pub AreDistinct : Keyed → Type 0
AreDistinct [] = Unit {0}
AreDistinct (p ∷ ps) = NotIn p.0 ps × AreDistinct ps

abbrev step : Keyed → List ℕ × List StoredObject → Keyed
step sorted one = put byte_order one.0 one.1 sorted

apart : (b : Bool) (q k : List ℕ) → q ≢ k → eq_by_cmp byte_order q k ≡ b → b ≡ false
apart true q k differ is = absurd (differ (same_key q k is))
apart false q k differ is = refl

found_still : (ps acc : Keyed) (k : List ℕ) → NotIn k ps → find byte_order k (fold step acc ps) ≡ find byte_order k acc
found_still [] acc k out = refl
found_still (p ∷ ps) acc k out =
    found_still ps (step acc p) k out.1 ∙ find-put byte_order byte_order_total k p.0 p.1 acc ∙ ap (λ b. cond b (Some p.1) (find byte_order k acc)) (apart _ k p.0 out.0 refl)

found_here : (ps acc : Keyed) (p : List ℕ × List StoredObject) → NotIn p.0 ps → find byte_order p.0 (fold step (step acc p) ps) ≡ Some p.1
found_here ps acc p out = found_still ps (step acc p) p.0 out ∙ find-put byte_order byte_order_total p.0 p.0 p.1 acc ∙ ap (λ b. cond b (Some p.1) (find byte_order p.0 acc)) (itself p.0)

-- ---- what is held of all is held of each

prefix_holds : (held : Held) (a b : List StoredObject) → Holds held (a ++ b) → Holds held a
prefix_holds held [] b h = tt
prefix_holds held (o ∷ os) b h = (h.0, prefix_holds held os b h.1)

pub back_holds : (held : Held) (a b : List StoredObject) → Holds held (a ++ b) → Holds held b
back_holds held [] b h = h
back_holds held (o ∷ os) b h = back_holds held os b h.1

pub both_hold : (held : Held) (a b : List StoredObject) → Holds held (a ++ b) → Holds held a × Holds held b
both_hold held a b h = (prefix_holds held a b h, back_holds held a b h)

found_holds : (held : Held) (ms : Keyed) (k : List ℕ) (os : List StoredObject) → Holds held (joined ms) → find byte_order k ms ≡ Some os → Holds held os
found_holds held [] k os h is = cc
found_holds held (m ∷ ms) k os h is = by_first (eq_by_cmp byte_order k m.0) (found_holds held ms k os (back_holds held m.1 (joined ms) h)) is
  where
    by_first : (b : Bool) → (find byte_order k ms ≡ Some os → Holds held os) → cond b (Some m.1) (find byte_order k ms) ≡ Some os → Holds held os
    by_first true rest e = let same : m.1 ≡ os = cc in subst (Holds held) same (prefix_holds held m.1 (joined ms) h)
    by_first false rest e = rest e

abbrev pub EachHolds : Held → Keyed → Type 0
EachHolds held [] = Unit {0}
EachHolds held (p ∷ ps) = Holds held p.1 × EachHolds held ps

pub each_holds : (held : Held) (ps acc : Keyed) → AreDistinct ps → Holds held (joined (fold step acc ps)) → EachHolds held ps
each_holds held [] acc distinct h = tt
each_holds held (p ∷ ps) acc distinct h = (found_holds held (fold step (step acc p) ps) p.0 p.1 h (found_here ps acc p distinct.0), each_holds held ps (step acc p) distinct.1 h)

-- ---- names that aren't refused

pub has_slash : List ℕ → Bool
has_slash = list_any (λ x. x == 47 || x == 0)

pub plain_name : (n : List ℕ) → is_bad n ≡ false → has_slash n ≡ false
unfolding has_slash
plain_name n good = (or_parts (bytes_eq n [] || bytes_eq n (codes ".") || bytes_eq n (codes "..")) (has_slash n) good).1

or-true : (b : Bool) → (b || true) ≡ true
or-true true = refl
or-true false = refl

slashed : (n : List ℕ) → has_slash (n ++ 47 ∷ []) ≡ true
unfolding has_slash
slashed n = list_any-append _ n (47 ∷ []) ∙ or-true _

pub keys_apart : (b c : Bool) (n m : List ℕ) → has_slash n ≡ false → has_slash m ≡ false → n ≢ m → sort_key b n ≢ sort_key c m
keys_apart false false n m p q differ e = differ e
keys_apart true true n m p q differ e = differ (append_cancel_right n m (47 ∷ []) e)
keys_apart false true n m p q differ e = let clash : false ≡ true = sym p ∙ ap has_slash e ∙ slashed m in cc
keys_apart true false n m p q differ e = let clash : false ≡ true = sym q ∙ ap has_slash (sym e) ∙ slashed n in cc

pub names_apart : (n m : List ℕ) → bytes_eq n m ≡ false → n ≢ m
names_apart n m differ e = let same = (bytes_eq-Decides n m).1 e in let clash : false ≡ true = sym differ ∙ same in cc

-- the first name isn't refused, nor are those behind it
pub unrefused : (before : List (List ℕ)) (n : List ℕ) (ns : List (List ℕ)) → first_refused before (n ∷ ns) ≡ None → (is_refused before n ≡ false) × (first_refused (n ∷ before) ns ≡ None)
unfolding first_refused
unrefused before n ns h = by_name (is_refused before n) h
  where
    by_name : (b : Bool) → cond b (Some n) (first_refused (n ∷ before) ns) ≡ None → (b ≡ false) × (first_refused (n ∷ before) ns ≡ None)
    by_name true e = cc
    by_name false e = (refl, e)

first_key : (m : List ℕ) (s : Summary) (cs : Children) → keyed (child m s cs) ≡ (sort_key (is_tree s) m, objects s) ∷ keyed cs
unfolding keyed
first_key m s cs = refl

no_key : keyed no_children ≡ []
unfolding keyed
no_key = refl

-- a name that was looked at stands at no key behind it
not_in : (n : List ℕ) (b : Bool) (before : List (List ℕ)) (cs : Children) → has_slash n ≡ false → ((m : List ℕ) → list_any (λ one. bytes_eq one m) before ≡ false → bytes_eq n m ≡ false)
    → first_refused before (names cs) ≡ None → NotIn (sort_key b n) (keyed cs)
not_in n b before no_children plain known h = subst (NotIn (sort_key b n)) (sym no_key) tt
not_in n b before (child m s cs) plain known h =
    let here = unrefused before m (names cs) h in
    let parts = or_parts (is_bad m) _ here.0 in
    subst (NotIn (sort_key b n)) (sym (first_key m s cs)) (
      keys_apart b (is_tree s) n m plain (plain_name m parts.0) (names_apart n m (known m parts.1)),
      not_in n b (m ∷ before) cs plain (λ k none. known k (or_parts (bytes_eq m k) _ none).1) here.1,
    )

keys_distinct : (before : List (List ℕ)) (cs : Children) → first_refused before (names cs) ≡ None → AreDistinct (keyed cs)
keys_distinct before no_children h = subst AreDistinct (sym no_key) tt
keys_distinct before (child m s cs) h =
    let here = unrefused before m (names cs) h in
    let parts = or_parts (is_bad m) _ here.0 in
    subst AreDistinct (sym (first_key m s cs))
    (not_in m (is_tree s) (m ∷ before) cs (plain_name m parts.0) (λ k none. (or_parts (bytes_eq m k) _ none).0) here.1, keys_distinct (m ∷ before) cs here.1)

-- the objects of each node are held where those of all are
pub all_below : (held : Held) (cs : Children) → first_refused [] (names cs) ≡ None → Holds held (joined (in_key_order (keyed cs))) → EachHolds held (keyed cs)
all_below held cs h holds = each_holds held (keyed cs) [] (keys_distinct [] cs h) holds
