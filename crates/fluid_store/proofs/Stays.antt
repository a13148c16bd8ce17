-- A store that grows.
use Rattle.std.proofs.Common.{◌≡◌, ℕ, zero, suc, ◌^◌, ◌<◌, List, [], ◌∷◌, length, Bool, true, false, ◌&&◌, Option, Some, None, refl, sym, ap, ◌∙◌}
use Rattle.std.specs.Prelude.{option_and_then}
use Rattle.std.specs.Result.{result_ok}
use Rattle.std.specs.List.{list_all}
use Rattle.std.specs.FinMap.{empty, insert, get, get-empty}
use Rattle.fluid_tree.specs.Laws.{IsReadBack}
use Rattle.fluid_tree.specs.Object.{object_bytes}
use Rattle.fluid_tree.specs.Reading.{object_read}
use Rattle.fluid_tree.specs.Summary.{Summary, blob, tree, handle, Children, no_children, child}
use Rattle.fluid_tree.specs.declared.object.Object.{Object}
use Rattle.fluid_tree.specs.declared.object.Object.TheVariants.{Blob, Tree}
use Rattle.fluid_tree.specs.declared.object.ObjectEntry.{ObjectEntry}
use Rattle.fluid_store.specs.Held.{byte_order, Held, Keeps}
use Rattle.fluid_store.specs.Standing.{Stands, AllStand, object_at}
use Rattle.fluid_store.specs.Complete.{is_whole_blob, is_whole, is_complete}
use Rattle.fluid_store.proofs.Added.{put_here}
use Rattle.fluid_store.proofs.Looked.{complete_blob, complete_more, no_object, not_complete}

module _ (old new : Held) (keeps : Keeps old new) where
  mutual
    pub stands_still : (node : Summary) (id : List ℕ) → Stands old id node → Stands new id node
    stands_still (blob content) id h = keeps id (object_bytes (Blob content)) h
    stands_still (tree nodes) id h = (h.0, (h.1.0, (keeps id _ h.1.1.0, all_still nodes h.1.0 h.1.1.1)))
    stands_still (handle path) id h = absurd h

    all_still : (nodes : Children) (entries : List ObjectEntry) → AllStand old entries nodes → AllStand new entries nodes
    all_still no_children [] h = tt
    all_still no_children (e ∷ entries) h = absurd h
    all_still (child name node nodes) [] h = absurd h
    all_still (child name node nodes) (e ∷ entries) h = (h.0, (h.1.0, (h.1.1.0, (stands_still node e.id h.1.1.1.0, all_still nodes entries h.1.1.1.1))))

  object_still : (id : List ℕ) (o : Object) → object_at old id ≡ Some o → object_at new id ≡ Some o
  object_still id o h = by_found (get old id) refl h
    where
      by_found : (found : Option (List ℕ)) → get old id ≡ found → option_and_then (λ bytes. result_ok (object_read bytes)) found ≡ Some o → object_at new id ≡ Some o
      by_found None e k = cc
      by_found (Some bytes) e k = ap (option_and_then (λ b. result_ok (object_read b))) (keeps id bytes e) ∙ k

  both_true : (a b : Bool) → (a && b) ≡ true → (a ≡ true) × (b ≡ true)
  both_true true b h = (refl, h)
  both_true false b h = cc

  all_then : (p q : List ℕ → Bool) → ((id : List ℕ) → p id ≡ true → q id ≡ true) → (entries : List ObjectEntry) → list_all (λ e. p e.id) entries ≡ true → list_all (λ e. q e.id) entries ≡ true
  all_then p q f [] h = refl
  all_then p q f (e ∷ entries) h =
      let parts = both_true (p e.id) (list_all (λ e. p e.id) entries) h in
      ap (λ b. b && list_all (λ e. q e.id) entries) (f e.id parts.0) ∙ all_then p q f entries parts.1

  whole_blob_still : (id : List ℕ) (o : Option Object) → object_at old id ≡ o → is_whole_blob o ≡ true → is_whole_blob (object_at new id) ≡ true
  whole_blob_still id None e h = cc
  whole_blob_still id (Some o) e h = ap is_whole_blob (object_still id o e) ∙ h

  whole_still : (p q : List ℕ → Bool) → ((id : List ℕ) → p id ≡ true → q id ≡ true) → (id : List ℕ) (o : Option Object) → object_at old id ≡ o → is_whole p o ≡ true → is_whole q (object_at new id) ≡ true
  whole_still p q f id None e h = cc
  whole_still p q f id (Some (Blob content)) e h = ap (is_whole q) (object_still id (Blob content) e)
  whole_still p q f id (Some (Tree entries)) e h = ap (is_whole q) (object_still id (Tree entries) e) ∙ all_then p q f entries h

  pub complete_still : (trees : ℕ) (id : List ℕ) → is_complete old trees id ≡ true → is_complete new trees id ≡ true
  complete_still zero id h = complete_blob new id ∙ whole_blob_still id (object_at old id) refl (sym (complete_blob old id) ∙ h)
  complete_still (suc n) id h =
      complete_more new n id ∙ whole_still (is_complete old n) (is_complete new n) (complete_still n) id (object_at old id) refl (sym (complete_more old n id) ∙ h)

pub empty_store : (trees : ℕ) (id : List ℕ) → is_complete empty trees id ≡ false
empty_store trees id = not_complete empty trees id (no_object (get empty id) (get-empty byte_order id))

pub one_blob : IsReadBack → (id content : List ℕ) → length content < 2 ^ 53
    → Stands (insert empty id (object_bytes (Blob content))) id (blob content) × (is_complete (insert empty id (object_bytes (Blob content))) zero id ≡ true)
one_blob read id content small =
    let held = insert empty id (object_bytes (Blob content)) in
    let here : get held id ≡ Some (object_bytes (Blob content)) = put_here empty id (object_bytes (Blob content)) in
    (here, complete_blob held id ∙ ap is_whole_blob (ap (option_and_then (λ b. result_ok (object_read b))) here ∙ ap result_ok (read (Blob content) small)))
