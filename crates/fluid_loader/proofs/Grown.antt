-- What is fetched stays so where all that was held is kept.
use Rattle.std.proofs.Common.{◌≡◌, ℕ, zero, suc, cond, List, [], ◌∷◌, Option, Some, None, Result, Ok, Err, refl, sym, ap, ◌∙◌}
use Rattle.std.specs.FinMap.{get}
use Rattle.fluid_tree.specs.Summary.{Summary, tree, Children, child}
use Rattle.fluid_tree.specs.declared.object.Object.{Object}
use Rattle.fluid_tree.specs.declared.object.Object.TheVariants.{Blob, Tree}
use Rattle.fluid_tree.specs.declared.object.ObjectEntry.{ObjectEntry}
use Rattle.fluid_store.specs.Fetching.{◌>>=◌, found_as, found, is_of_kind, child_by, nodes_by, node_within, fetched}
use Rattle.fluid_store.specs.Held.{Held, Keeps}
use Rattle.fluid_store.specs.declared.fault.StoreFault.{StoreFault}
use Rattle.fluid_store.specs.declared.fault.StoreFault.TheVariants.{BadObject}
use Rattle.fluid_store.proofs.Fetched.{bind_ok, kind_by}

module _ (old new : Held) (keeps : Keeps old new) where
  found_kept : (id : List ℕ) (o : Object) → Ok o ≡ found old id → Ok o ≡ found new id
  found_kept id o h = by_bytes (get old id) refl h
    where
      by_bytes : (b : Option (List ℕ)) → get old id ≡ b → Ok o ≡ found_as id b → Ok o ≡ found new id
      by_bytes None is k = cc
      by_bytes (Some bytes) is k = k ∙ sym (ap (found_as id) (keeps id bytes is))

  abbrev at_level : ℕ → Type 0
  at_level n = (o : Object) (node : Summary) → Ok node ≡ node_within old n o → Ok node ≡ node_within new n o

  abbrev read_by : Held → ℕ → ObjectEntry → Object → Result Summary StoreFault
  read_by held n e o = cond (is_of_kind e.tree o) (node_within held n o) (Err (BadObject e.id 0))

  child_kept : (n : ℕ) → at_level n → (e : ObjectEntry) (s : Summary) → Ok s ≡ child_by old (node_within old n) e → Ok s ≡ child_by new (node_within new n) e
  child_kept n level e s h =
      let one = bind_ok (found old e.id) (read_by old n e) s h in
      let kind = kind_by (is_of_kind e.tree one.0) (node_within old n one.0) (BadObject e.id 0) s one.1.1 in
      level one.0 s kind.1 ∙ sym (ap (λ c. cond c (node_within new n one.0) (Err (BadObject e.id 0))) kind.0) ∙ ap (λ r. r >>= read_by new n e) (found_kept e.id one.0 one.1.0)

  nodes_kept : (n : ℕ) → at_level n → (es : List ObjectEntry) (cs : Children) → Ok cs ≡ nodes_by (child_by old (node_within old n)) es → Ok cs ≡ nodes_by (child_by new (node_within new n)) es
  nodes_kept n level [] cs h = h
  nodes_kept n level (e ∷ es) cs h =
      let one = bind_ok (child_by old (node_within old n) e) (λ s. nodes_by (child_by old (node_within old n)) es >>= λ nodes. Ok (child e.name s nodes)) cs h in
      let two = bind_ok (nodes_by (child_by old (node_within old n)) es) (λ nodes. Ok (child e.name one.0 nodes)) cs one.1.1 in
      two.1.1 ∙ ap (λ r. r >>= λ nodes. Ok (child e.name one.0 nodes)) (nodes_kept n level es two.0 two.1.0)
      ∙ ap (λ r. r >>= λ s. (nodes_by (child_by new (node_within new n)) es >>= λ nodes. Ok (child e.name s nodes))) (child_kept n level e one.0 one.1.0)

  within_kept : (n : ℕ) → at_level n
  unfolding node_within
  within_kept zero (Blob content) node h = h
  within_kept zero (Tree es) node h = h
  within_kept (suc n) (Blob content) node h = h
  within_kept (suc n) (Tree es) node h =
      let one = bind_ok (nodes_by (child_by old (node_within old n)) es) (λ nodes. Ok (tree nodes)) node h in
      one.1.1 ∙ ap (λ r. r >>= λ nodes. Ok (tree nodes)) (nodes_kept n (within_kept n) es one.0 one.1.0)

  pub fetched_kept : (levels : ℕ) (id : List ℕ) (node : Summary) → fetched old levels id ≡ Ok node → fetched new levels id ≡ Ok node
  fetched_kept levels id node h =
      let one = bind_ok (found old id) (node_within old levels) node (sym h) in
      sym (within_kept levels one.0 node one.1.1 ∙ ap (λ r. r >>= node_within new levels) (found_kept id one.0 one.1.0))
