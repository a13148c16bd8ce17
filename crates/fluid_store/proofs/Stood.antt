-- A tree stands where its objects are held.
use Rattle.std.proofs.Common.{◌≡◌, ℕ, zero, suc, List, [], ◌∷◌, ◌++◌, Option, Some, None, Result, Ok, Err, refl, sym, ap, subst, ◌∙◌}
use Rattle.std.specs.FinMap.{get}
use Rattle.sha1.specs.Sha1.{sha1}
use Rattle.fluid_tree.specs.Identity.{id_within, entries_within, unrefused, ◌>>=◌}
use Rattle.fluid_tree.specs.Names.{first_refused}
use Rattle.fluid_tree.specs.Object.{object_bytes, tree_bytes, sort_key}
use Rattle.fluid_tree.specs.Summary.{Summary, blob, tree, handle, Children, no_children, child, names, is_tree}
use Rattle.fluid_tree.specs.declared.fault.TreeFault.{TreeFault}
use Rattle.fluid_tree.specs.declared.object.Object.TheVariants.{Blob}
use Rattle.fluid_tree.specs.declared.object.ObjectEntry.{ObjectEntry}
use Rattle.fluid_store.specs.Held.{Held}
use Rattle.fluid_store.specs.Keeping.{Holds}
use Rattle.fluid_store.specs.Listed.{own_bytes, own_entries, object_of, in_key_order, joined, objects, keyed}
use Rattle.fluid_store.specs.Standing.{Stands, AllStand}
use Rattle.fluid_store.proofs.Distinct.{EachHolds, all_below, both_hold}
use Rattle.fluid_store.proofs.Sized.{id_size}

goes : {A B : Type 0} (r : Result A TreeFault) (f : A → Result B TreeFault) (b : B) → (r >>= f) ≡ Ok b → (a : A) × ((r ≡ Ok a) × (f a ≡ Ok b))
goes (Ok a) f b h = (a, (refl, h))
goes (Err e) f b h = cc

none_refused : (o : Option (List ℕ)) (u : Unit {0}) → unrefused o ≡ Ok u → o ≡ None
none_refused None u h = refl
none_refused (Some name) u h = cc

-- what a tree's id tells of its nodes
pub tree_within : (n : ℕ) (cs : Children) (i : List ℕ) → id_within (suc n) (tree cs) ≡ Ok i
    → (first_refused [] (names cs) ≡ None) × ((es : List ObjectEntry) × ((entries_within n cs ≡ Ok es) × (sha1 (tree_bytes es) ≡ i)))
unfolding id_within
tree_within n cs i h =
    let a = goes (unrefused (first_refused [] (names cs))) _ i h in
    let b = goes (entries_within n cs) _ i a.1.1 in
    (none_refused (first_refused [] (names cs)) a.0 a.1.0, (b.0, (b.1.0, let e : sha1 (tree_bytes b.0) ≡ i = cc in e)))

pub no_tree : (cs : Children) (i : List ℕ) → id_within zero (tree cs) ≡ Ok i → ⊥
unfolding id_within
no_tree cs i h = cc

pub no_handle : (n : ℕ) (path : List (List ℕ)) (i : List ℕ) → id_within n (handle path) ≡ Ok i → ⊥
unfolding id_within
no_handle zero path i h = cc
no_handle (suc n) path i h = cc

blob_within : (n : ℕ) (content i : List ℕ) → id_within n (blob content) ≡ Ok i → i ≡ sha1 (own_bytes (blob content))
unfolding id_within own_bytes
blob_within zero content i h = let e : sha1 (object_bytes (Blob content)) ≡ i = cc in sym e
blob_within (suc n) content i h = let e : sha1 (object_bytes (Blob content)) ≡ i = cc in sym e

pub entry_within : (n : ℕ) (m : List ℕ) (s : Summary) (cs : Children) (es : List ObjectEntry) → entries_within n (child m s cs) ≡ Ok es
    → (i : List ℕ) × ((id_within n s ≡ Ok i) × ((more : List ObjectEntry) × ((entries_within n cs ≡ Ok more) × (es ≡ record { name = m; tree = is_tree s; id = i } ∷ more))))
unfolding entries_within
entry_within n m s cs es h =
    let a = goes (id_within n s) _ es h in
    let b = goes (entries_within n cs) _ es a.1.1 in
    (a.0, (a.1.0, (b.0, (b.1.0, let e : record { name = m; tree = is_tree s; id = a.0 } ∷ b.0 ≡ es = cc in sym e))))

no_entries_within : (n : ℕ) (es : List ObjectEntry) → entries_within n no_children ≡ Ok es → es ≡ own_entries no_children
unfolding entries_within own_entries
no_entries_within n es h = cc

pub own_of_tree : (cs : Children) → own_bytes (tree cs) ≡ tree_bytes (own_entries cs)
unfolding own_bytes
own_of_tree cs = refl

pub own_of_child : (m : List ℕ) (s : Summary) (cs : Children) → own_entries (child m s cs) ≡ record { name = m; tree = is_tree s; id = sha1 (own_bytes s) } ∷ own_entries cs
unfolding own_entries
own_of_child m s cs = refl

-- the id of a tree is that of its own bytes
mutual
  pub id_is : (n : ℕ) (s : Summary) (i : List ℕ) → id_within n s ≡ Ok i → i ≡ sha1 (own_bytes s)
  id_is n (blob content) i h = blob_within n content i h
  id_is n (handle path) i h = absurd (no_handle n path i h)
  id_is zero (tree cs) i h = absurd (no_tree cs i h)
  id_is (suc n) (tree cs) i h =
      let w = tree_within n cs i h in
      sym w.1.1.1 ∙ ap (λ es. sha1 (tree_bytes es)) (entries_are n cs w.1.0 w.1.1.0) ∙ ap sha1 (sym (own_of_tree cs))

  entries_are : (n : ℕ) (cs : Children) (es : List ObjectEntry) → entries_within n cs ≡ Ok es → es ≡ own_entries cs
  entries_are n no_children es h = no_entries_within n es h
  entries_are n (child m s cs) es h =
      let w = entry_within n m s cs es h in
      let id = id_is n s w.0 w.1.0 in
      let more = entries_are n cs w.1.1.0 w.1.1.1.0 in
      w.1.1.1.1 ∙ (λ k. record { name = m; tree = is_tree s; id = id k } ∷ more k) ∙ sym (own_of_child m s cs)

pub objects_of_blob : (content : List ℕ) → objects (blob content) ≡ object_of (object_bytes (Blob content)) ∷ []
unfolding objects own_bytes
objects_of_blob content = refl

pub own_of_blob : (content : List ℕ) → own_bytes (blob content) ≡ object_bytes (Blob content)
unfolding own_bytes
own_of_blob content = refl

pub objects_of_tree : (cs : Children) → objects (tree cs) ≡ joined (in_key_order (keyed cs)) ++ object_of (own_bytes (tree cs)) ∷ []
unfolding objects
objects_of_tree cs = refl

pub keyed_child : (m : List ℕ) (s : Summary) (cs : Children) → keyed (child m s cs) ≡ (sort_key (is_tree s) m, objects s) ∷ keyed cs
unfolding keyed
keyed_child m s cs = refl

pub none_own : own_entries no_children ≡ []
unfolding own_entries
none_own = refl

mutual
  pub stands : (held : Held) (n : ℕ) (s : Summary) (i : List ℕ) → id_within n s ≡ Ok i → Holds held (objects s) → Stands held (sha1 (own_bytes s)) s
  stands held n (blob content) i h holds =
      let own = subst (Holds held) (objects_of_blob content) holds in
      subst (λ b. get held (sha1 b) ≡ Some (object_bytes (Blob content))) (sym (own_of_blob content)) own.0
  stands held n (handle path) i h holds = absurd (no_handle n path i h)
  stands held zero (tree cs) i h holds = absurd (no_tree cs i h)
  stands held (suc n) (tree cs) i h holds =
      let w = tree_within n cs i h in
      let parts = both_hold held (joined (in_key_order (keyed cs))) _ (subst (Holds held) (objects_of_tree cs) holds) in
      (w.0, (own_entries cs, (parts.1.0 ∙ ap Some (own_of_tree cs), all_stand held n cs w.1.0 w.1.1.0 (all_below held cs w.0 parts.0))))

  all_stand : (held : Held) (n : ℕ) (cs : Children) (es : List ObjectEntry) → entries_within n cs ≡ Ok es → EachHolds held (keyed cs) → AllStand held (own_entries cs) cs
  all_stand held n no_children es h each = subst (λ l. AllStand held l no_children) (sym none_own) tt
  all_stand held n (child m s cs) es h each =
      let w = entry_within n m s cs es h in
      let parts = subst (EachHolds held) (keyed_child m s cs) each in
      subst (λ l. AllStand held l (child m s cs)) (sym (own_of_child m s cs)) (refl, (refl, (id_size (own_bytes s), (stands held n s w.0 w.1.0 parts.0, all_stand held n cs w.1.1.0 w.1.1.1.0 parts.1))))
