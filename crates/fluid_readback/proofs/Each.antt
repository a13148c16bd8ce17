-- What holds of each item of a list, and of what is made of the list.
use Rattle.std.proofs.Common.{◌≡◌, ℕ, suc, arith, Bool, true, false, T, List, [], ◌∷◌, ◌++◌, reverse, All, Option, Some, None, refl, sym, subst}
use Rattle.std.specs.Prelude.{⊤, option_and_then}
use Rattle.std.specs.declared.cmp.Ordering.{Ordering}
use Rattle.std.specs.declared.cmp.Ordering.TheVariants.{Less, Equal, Greater}
use Rattle.std.specs.FinMap.{IsAntisymmetric, nat_cmp-IsAntisymmetric, slice_cmp-IsAntisymmetric, entries, entries_sorted, from_sorted, entries-from_sorted, same_entries_map}
use Rattle.std.specs.FinMap.Entries.{by_order, put}
use Rattle.std.proofs.lemmas.List.{reverse-append}
use Rattle.fluid_table.specs.Table.{byte_order}
use Rattle.fluid_types.specs.Quorum.{Table, latest}
use Rattle.fluid_types.proofs.Tables.{put_all, entries-latest}

-- one step after another: where both give something
pub then_some : {A B : Type 0} (f : A → Option B) (o : Option A) (b : B) → option_and_then f o ≡ Some b → (a : A) × (o ≡ Some a) × (f a ≡ Some b)
then_some f None b h = cc
then_some f (Some a) b h = (a, refl, h)

pub is_true : (b : Bool) → T b → b ≡ true
is_true true h = refl
is_true false h = absurd h

abbrev pub Each : {A : Type 0} → (A → Type 0) → List A → Type 0
Each P [] = ⊤
Each P (x ∷ xs) = P x × Each P xs

pub each-all : {A : Type 0} (P : A → Type 0) (xs : List A) → All P xs → Each P xs
each-all P [] h = tt
each-all P (x ∷ xs) h = (h 0 x (omega arith), each-all P xs (λ k d lt. h (suc k) d (omega arith)))

pub each-append : {A : Type 0} (P : A → Type 0) (xs ys : List A) → Each P xs → Each P ys → Each P (xs ++ ys)
each-append P [] ys g h = h
each-append P (x ∷ xs) ys g h = (g.0, each-append P xs ys g.1 h)

each-reverse : {A : Type 0} (P : A → Type 0) (xs : List A) → Each P xs → Each P (reverse xs)
each-reverse P [] h = tt
each-reverse P (x ∷ xs) h = subst (Each P) (sym (reverse-append (x ∷ []) xs)) (each-append P (reverse xs) (x ∷ []) (each-reverse P xs h.1) (h.0, tt))

-- ---- tables

same_key : IsAntisymmetric byte_order
same_key = slice_cmp-IsAntisymmetric nat_cmp-IsAntisymmetric

each-put : {X : Type 0} (P : List ℕ × X → Type 0) (k : List ℕ) (v : X) (es : List (List ℕ × X)) → P (k, v) → Each P es → Each P (put byte_order k v es)
each-put P k v [] p h = (p, tt)
each-put P k v (e ∷ es) p h = of (byte_order k e.0) refl (each-put P k v es p h.1)
  where
    of : (r : Ordering) → byte_order k e.0 ≡ r → Each P (put byte_order k v es) → Each P (by_order r ((k, v) ∷ e ∷ es) ((e.0, v) ∷ es) (e ∷ put byte_order k v es))
    of Less is rest = (p, h)
    of Equal is rest = (subst (λ x. P (x, v)) (same_key k e.0 is) p, h.1)
    of Greater is rest = (h.0, rest)

each-put_all : {X : Type 0} (P : List ℕ × X → Type 0) (es : List (List ℕ × X)) → Each P es → Each P (put_all es)
each-put_all P [] h = tt
each-put_all P (e ∷ es) h = each-put P e.0 e.1 (put_all es) h.0 (each-put_all P es h.1)

-- what holds of each pair holds of each entry of their table
pub each-latest : {X : Type 0} (P : List ℕ × X → Type 0) (pairs : List (List ℕ × X)) → Each P pairs → Each P (entries (latest pairs))
each-latest P pairs h = subst (Each P) (sym (entries-latest pairs)) (each-put_all P (reverse pairs) (each-reverse P pairs h))

-- a table is that of its entries
pub of_entries : {X : Type 0} (t : Table X) → from_sorted (entries t) ≡ t
of_entries t = same_entries_map _ t (entries-from_sorted byte_order (entries t) (entries_sorted t))
