-- Which objects were fetched, call after call.
use Rattle.std.proofs.Common.{◌≡◌, inl, inr, ℕ, zero, suc, ◌<◌, List, [], ◌∷◌, ◌++◌, length, get_or, Option, Some, Result, Ok, Err, refl, sym, ap, subst, ◌∙◌, arith, append_assoc, append-nil}
use Rattle.std.specs.List.{AllByRecursion}
use Rattle.std.specs.Result.{OnOk}
use Rattle.fluid_io.specs.Causes.{Tells}
use Rattle.fluid_tree.specs.declared.object.Object.{Object}
use Rattle.fluid_tree.specs.declared.object.Object.TheVariants.{Tree}
use Rattle.fluid_tree.specs.declared.object.ObjectEntry.{ObjectEntry}
use Rattle.fluid_tree.specs.declared.id.SummaryRef.{SummaryRef}
use Rattle.fluid_store.specs.Held.{Held}
use Rattle.fluid_store.specs.Standing.{object_at}
use Rattle.fluid_loader.specs.Calls.{FetchesIn}
use Rattle.fluid_loader.specs.Link.{Document, Linked, picked}
use Rattle.fluid_loader.specs.declared.link.Pick.{Pick}
use Rattle.fluid_loader.specs.Version.{HasId, IsBelow, IsIn, IsOfVersion}
use Rattle.fluid_loader.proofs.Seen.{tells_then, tells_both, tells_of, tells_all, same_answer}

all_then : (P Q : List ℕ → Type 0) → ((x : List ℕ) → P x → Q x) → (xs : List (List ℕ)) → AllByRecursion P xs → AllByRecursion Q xs
all_then P Q f [] h = tt
all_then P Q f (x ∷ xs) h = (f x h.0, all_then P Q f xs h.1)

all_both : (P : List ℕ → Type 0) (xs ys : List (List ℕ)) → AllByRecursion P xs → AllByRecursion P ys → AllByRecursion P (xs ++ ys)
all_both P [] ys h k = k
all_both P (x ∷ xs) ys h k = (h.0, all_both P xs ys h.1 k)

pub none_fetched : (inside : Document → List ℕ → Type 0) (old new : Linked) → new.objects ≡ old.objects → FetchesIn inside old new
none_fetched inside old new same = record { ids = []; fetched = same ∙ sym (append-nil old.objects); are = tells_all old.told (λ d. AllByRecursion (inside d) []) (λ d. tt) }

-- such ones as by what is told
pub fetched_so : (inside other : Document → List ℕ → Type 0) (old new : Linked) → Tells old.told (λ d. (one : List ℕ) → inside d one → other d one) → FetchesIn inside old new → FetchesIn other old new
fetched_so inside other old new f h = record {
  ids = h.ids;
  fetched = h.fetched;
  are =
      tells_both old.told (λ d. (one : List ℕ) → inside d one → other d one) (λ d. AllByRecursion (inside d) h.ids) (λ d. AllByRecursion (other d) h.ids)
      (λ d g all. all_then (inside d) (other d) g h.ids all) f h.are;
}

pub fetched_then : (inside : Document → List ℕ → Type 0) (old mid new : Linked) → mid.told ≡ old.told → FetchesIn inside old mid → FetchesIn inside mid new → FetchesIn inside old new
fetched_then inside old mid new same h k = record {
  ids = h.ids ++ k.ids;
  fetched = k.fetched ∙ ap (λ l. l ++ k.ids) h.fetched ∙ append_assoc old.objects h.ids k.ids;
  are =
      tells_both old.told (λ d. AllByRecursion (inside d) h.ids) (λ d. AllByRecursion (inside d) k.ids) (λ d. AllByRecursion (inside d) (h.ids ++ k.ids))
      (λ d a b. all_both (inside d) h.ids k.ids a b) h.are (tells_of old.told mid.told (λ d. AllByRecursion (inside d) k.ids) same k.are);
}

-- ---- in a tree

pub itself : (held : Held) (levels : ℕ) (one root : List ℕ) → one ≡ root → IsIn held levels one root
itself held zero one root is = is
itself held (suc levels) one root is = inl is

pub below : (held : Held) (levels : ℕ) (one root : List ℕ) (entries : List ObjectEntry) → object_at held root ≡ Some (Tree entries) → HasId (IsIn held levels one) entries → IsIn held (suc levels) one root
below held levels one root entries is has = inr (subst (IsBelow (IsIn held levels one)) (sym is) has)

pub has_at : (P : List ℕ → Type 0) (entries : List ObjectEntry) (n : ℕ) (e d : ObjectEntry) → n < length entries → e ≡ get_or entries n d → P e.id → HasId P entries
has_at P [] n e d within is h = absurd (omega (arith, within))
has_at P (x ∷ xs) zero e d within is h = inl (subst (λ (f : ObjectEntry). P f.id) is h)
has_at P (x ∷ xs) (suc n) e d within is h = inr (has_at P xs n e d (omega (arith, within)) is h)

pub on_ok_so : {A E P Q : Type 0} (r : Result A E) → (P → Q) → OnOk r P → OnOk r Q
on_ok_so (Ok a) f h = f h
on_ok_so (Err e) f h = tt

-- a tree was fetched, and then its nodes
pub tree_fetched : (levels : ℕ) (id : List ℕ) (entries slice : List ObjectEntry) (found : Option Object) (old mid new : Linked) → mid.told ≡ old.told → found ≡ Some (Tree entries) → slice ≡ entries
    → Tells old.told (λ d. ◌≡◌ {A = Result (Option Object) (List ℕ)} (Ok found) (Ok (object_at d.held id))) → FetchesIn (λ d one. one ≡ id) old mid
    → FetchesIn (λ d one. HasId (IsIn d.held levels one) slice) mid new → FetchesIn (λ d one. IsIn d.held (suc levels) one id) old new
tree_fetched levels id entries slice found old mid new same is own at first rest =
    fetched_then (λ d one. IsIn d.held (suc levels) one id) old mid new same
    (fetched_so (λ d one. one ≡ id) (λ d one. IsIn d.held (suc levels) one id) old mid (tells_all old.told (λ d. (one : List ℕ) → one ≡ id → IsIn d.held (suc levels) one id) (λ d one k. inl k)) first)
    (fetched_so (λ d one. HasId (IsIn d.held levels one) slice) (λ d one. IsIn d.held (suc levels) one id) mid new
    (tells_of mid.told old.told (λ d. (one : List ℕ) → HasId (IsIn d.held levels one) slice → IsIn d.held (suc levels) one id) (sym same)
    (tells_then old.told (λ d. ◌≡◌ {A = Result (Option Object) (List ℕ)} (Ok found) (Ok (object_at d.held id))) (λ d. (one : List ℕ) → HasId (IsIn d.held levels one) slice → IsIn d.held (suc levels) one id)
    (λ d here one has. below d.held levels one id entries (sym (same_answer found (object_at d.held id) here) ∙ is) (subst (HasId (IsIn d.held levels one)) own has)) at)) rest)

-- only its own object was fetched
pub alone_fetched : (levels : ℕ) (id : List ℕ) (old new : Linked) → FetchesIn (λ d one. one ≡ id) old new → FetchesIn (λ d one. IsIn d.held levels one id) old new
alone_fetched levels id old new h =
    fetched_so (λ d one. one ≡ id) (λ d one. IsIn d.held levels one id) old new
    (tells_all old.told (λ d. (one : List ℕ) → one ≡ id → IsIn d.held levels one id) (λ d one k. itself d.held levels one id k)) h

pub level_fetched : (levels n : ℕ) (id : List ℕ) (old new : Linked) → levels ≡ suc n → FetchesIn (λ d one. IsIn d.held (suc n) one id) old new → FetchesIn (λ d one. IsIn d.held levels one id) old new
level_fetched levels n id old new is h = subst (λ k. FetchesIn (λ d one. IsIn d.held k one id) old new) (sym is) h

-- the next of the entries
pub entry_fetched : (levels : ℕ) (entries : List ObjectEntry) (n : ℕ) (e : ObjectEntry) (old mid new : Linked) → mid.told ≡ old.told → n < length entries → e ≡ get_or entries n e
    → FetchesIn (λ d one. HasId (IsIn d.held levels one) entries) old mid → FetchesIn (λ d one. IsIn d.held levels one e.id) mid new → FetchesIn (λ d one. HasId (IsIn d.held levels one) entries) old new
entry_fetched levels entries n e old mid new same within is first next =
    fetched_then (λ d one. HasId (IsIn d.held levels one) entries) old mid new same first
    (fetched_so (λ d one. IsIn d.held levels one e.id) (λ d one. HasId (IsIn d.held levels one) entries) mid new
    (tells_all mid.told (λ d. (one : List ℕ) → IsIn d.held levels one e.id → HasId (IsIn d.held levels one) entries) (λ d one k. has_at (IsIn d.held levels one) entries n e e within is k)) next)

-- and of the version that was picked
pub picked_fetched : (pick : Pick) (s : SummaryRef) (old mid new : Linked) → mid.told ≡ old.told → mid.objects ≡ old.objects → Tells old.told (λ d. Some s ≡ picked pick d.order)
    → FetchesIn (λ d one. IsIn d.held 3 one s.handle) mid new → FetchesIn (λ d. IsOfVersion d.held (picked pick d.order)) old new
picked_fetched pick s old mid new same none is h =
    fetched_then (λ d. IsOfVersion d.held (picked pick d.order)) old mid new same (none_fetched (λ d. IsOfVersion d.held (picked pick d.order)) old mid none)
    (fetched_so (λ d one. IsIn d.held 3 one s.handle) (λ d. IsOfVersion d.held (picked pick d.order)) mid new
    (tells_of mid.told old.told (λ d. (one : List ℕ) → IsIn d.held 3 one s.handle → IsOfVersion d.held (picked pick d.order) one) (sym same)
    (tells_then old.told (λ d. Some s ≡ picked pick d.order) (λ d. (one : List ℕ) → IsIn d.held 3 one s.handle → IsOfVersion d.held (picked pick d.order) one)
    (λ d k one inside. subst (λ o. IsOfVersion d.held o one) k inside) is)) h)

pub kept_fetched : (inside : Document → List ℕ → Type 0) (old mid new : Linked) → new.objects ≡ mid.objects → FetchesIn inside old mid → FetchesIn inside old new
kept_fetched inside old mid new same h = record { ids = h.ids; fetched = same ∙ h.fetched; are = h.are }
