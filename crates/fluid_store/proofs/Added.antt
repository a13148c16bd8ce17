-- Objects added to a store, one after the other.
use Rattle.std.proofs.Common.{◌≡◌, ℕ, Bool, true, false, cond, List, [], ◌∷◌, ◌++◌, Option, Some, None, refl, sym, ap, subst, ◌∙◌}
use Rattle.std.specs.Option.{option_map}
use Rattle.std.specs.Ordering.{is_eq, eq_by_cmp}
use Rattle.std.specs.Cmp.{tied_itself}
use Rattle.std.specs.declared.cmp.Ordering.{Ordering}
use Rattle.std.specs.declared.cmp.Ordering.TheVariants.{Less, Equal, Greater}
use Rattle.std.specs.FinMap.{get, insert, get-insert, same_map}
use Rattle.fluid_io.specs.Causes.{Tells}
use Rattle.fluid_store.specs.Held.{byte_order, Held, Keeps}
use Rattle.fluid_store.specs.Keeping.{with_all, Holds, Adds}
use Rattle.fluid_store.specs.declared.listing.StoredObject.{StoredObject}
use Rattle.fluid_store.proofs.Maps.{byte_order_total, byte_order-IsAntisymmetric}

equal : (r : Ordering) → is_eq r ≡ true → r ≡ Equal
equal Less h = cc
equal Equal h = refl
equal Greater h = cc

pub same_key : (q k : List ℕ) → eq_by_cmp byte_order q k ≡ true → q ≡ k
same_key q k h = byte_order-IsAntisymmetric q k (equal _ h)

pub itself : (k : List ℕ) → eq_by_cmp byte_order k k ≡ true
itself k = ap is_eq (tied_itself byte_order_total k)

-- what is held under an id after bytes were put under another one, or under this one
by_key : (b : Bool) (x y : Option (List ℕ)) (P : Option (List ℕ) → Type 0) → (b ≡ true → P x) → (b ≡ false → P y) → P (cond b x y)
by_key true x y P f g = f refl
by_key false x y P f g = g refl

module _ (held : Held) (id bytes : List ℕ) where
  pub put_here : get (insert held id bytes) id ≡ Some bytes
  put_here = get-insert byte_order_total held id bytes id ∙ ap (λ b. cond b (Some bytes) (get held id)) (itself id)

  pub put_keeps : get held id ≡ None → Keeps held (insert held id bytes)
  put_keeps none q b has =
      get-insert byte_order_total held id bytes q
      ∙ by_key (eq_by_cmp byte_order q id) (Some bytes) (get held q) (λ x. x ≡ Some b) (λ same. let e : get held q ≡ None = ap (get held) (same_key q id same) ∙ none in cc) (λ other. has)

  -- to put what is held is to change nothing
  pub put_again : get held id ≡ Some bytes → insert held id bytes ≡ held
  put_again has =
      same_map byte_order_total byte_order-IsAntisymmetric _ _ (λ q.
      get-insert byte_order_total held id bytes q
      ∙ by_key (eq_by_cmp byte_order q id) (Some bytes) (get held q) (λ x. x ≡ get held q) (λ same. sym has ∙ sym (ap (get held) (same_key q id same))) (λ other. refl))

-- ---- adding

pub with_more : (held : Held) (a b : List StoredObject) → with_all held (a ++ b) ≡ with_all (with_all held a) b
with_more held [] b = refl
with_more held (o ∷ os) b = with_more (insert held o.id o.bytes) os b

pub holds_still : (held more : Held) → Keeps held more → (os : List StoredObject) → Holds held os → Holds more os
holds_still held more keeps [] h = tt
holds_still held more keeps (o ∷ os) h = (keeps o.id o.bytes h.0, holds_still held more keeps os h.1)

pub holds_both : (held : Held) (a b : List StoredObject) → Holds held a → Holds held b → Holds held (a ++ b)
holds_both held [] b f s = s
holds_both held (o ∷ os) b f s = (f.0, holds_both held os b f.1 s)

pub adds_nothing : (content : Option Held) → Adds [] content content
adds_nothing None = record { content = refl; kept = tt; added = tt }
adds_nothing (Some held) = record { content = refl; kept = λ q b h. h; added = tt }

module _ (id bytes : List ℕ) where
  pub adds_found : (content : Option Held) → Tells content (λ held. Some bytes ≡ get held id) → Adds (record { id = id; bytes = bytes } ∷ []) content content
  adds_found None h = record { content = refl; kept = tt; added = tt }
  adds_found (Some held) h =
      let again = put_again held id bytes (sym h) in
      record {
        content = ap Some (sym again);
        kept = λ q b has. subst (λ more. get more q ≡ Some b) (sym again) has;
        added = (put_here held id bytes, tt);
      }

  pub adds_new : (old new : Option Held) → Tells old (λ held. None ≡ get held id) → new ≡ option_map (λ held. insert held id bytes) old → Adds (record { id = id; bytes = bytes } ∷ []) old new
  adds_new None new h e = record { content = e; kept = tt; added = tt }
  adds_new (Some held) new h e = record { content = e; kept = put_keeps held id bytes (sym h); added = (put_here held id bytes, tt) }

adds_from : (a b : List StoredObject) (old new : Option Held) → Tells old (λ held. Keeps held (with_all held a)) → Tells old (λ held. Holds (with_all held a) a)
    → Adds b (option_map (λ held. with_all held a) old) new → Adds (a ++ b) old new
adds_from a b None new kept added more = record { content = more.content; kept = tt; added = tt }
adds_from a b (Some held) new kept added more =
    let all = sym (with_more held a b) in
    record {
      content = more.content ∙ ap Some all;
      kept = λ q v has. subst (λ g. get g q ≡ Some v) all (more.kept q v (kept q v has));
      added = subst (λ g. Holds g (a ++ b)) all (holds_both _ a b (holds_still _ _ more.kept a added) more.added);
    }

pub adds_more : (a b : List StoredObject) (old mid new : Option Held) → Adds a old mid → Adds b mid new → Adds (a ++ b) old new
adds_more a b old mid new first more = adds_from a b old new first.kept first.added (subst (λ c. Adds b c new) first.content more)
