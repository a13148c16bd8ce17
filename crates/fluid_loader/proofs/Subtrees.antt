-- Nodes that are fetched, by the objects under their ids.
use Rattle.std.proofs.Common.{◌≡◌, ℕ, suc, true, false, cond, List, ◌∷◌, Option, Some, None, option_and_then, Result, Ok, Err, ap, ◌∙◌}
use Rattle.std.specs.Result.{result_ok}
use Rattle.std.specs.FinMap.{get}
use Rattle.fluid_tree.specs.Reading.{object_read}
use Rattle.fluid_tree.specs.Summary.{Summary, blob, tree, Children, child}
use Rattle.fluid_tree.specs.declared.fault.TreeFault.{TreeFault}
use Rattle.fluid_tree.specs.declared.object.Object.{Object}
use Rattle.fluid_tree.specs.declared.object.Object.TheVariants.{Blob, Tree}
use Rattle.fluid_tree.specs.declared.object.ObjectEntry.{ObjectEntry}
use Rattle.fluid_store.specs.Fetching.{◌>>=◌, found_as, read_as, found, is_of_kind, child_by, nodes_by, node_within, fetched}
use Rattle.fluid_store.specs.Held.{Held}
use Rattle.fluid_store.specs.Standing.{object_at}
use Rattle.fluid_store.specs.declared.fault.StoreFault.{StoreFault}
use Rattle.fluid_store.specs.declared.fault.StoreFault.TheVariants.{BadObject}
use Rattle.fluid_loader.proofs.Fetched.{of_blob, of_tree}

module _ (held : Held) where
  found_of : (id : List ℕ) (o : Object) → object_at held id ≡ Some o → found held id ≡ Ok o
  found_of id o is = by_bytes (get held id) is
    where
      by_read : (r : Result Object TreeFault) → result_ok r ≡ Some o → read_as id r ≡ Ok o
      by_read (Ok p) h = let same : p ≡ o = cc in ap Ok same
      by_read (Err f) h = cc

      by_bytes : (b : Option (List ℕ)) → option_and_then (λ x. result_ok (object_read x)) b ≡ Some o → found_as id b ≡ Ok o
      by_bytes None h = cc
      by_bytes (Some bytes) h = by_read (object_read bytes) h

  abbrev pub child_at : ℕ → ObjectEntry → Result Summary StoreFault
  child_at n = child_by held (node_within held n)

  pub blob_child : (n : ℕ) (e : ObjectEntry) (content : List ℕ) → e.tree ≡ false → object_at held e.id ≡ Some (Blob content) → child_at n e ≡ Ok (blob content)
  blob_child n e content kind is =
      ap (λ r. r >>= λ object. cond (is_of_kind e.tree object) (node_within held n object) (Err (BadObject e.id 0))) (found_of e.id (Blob content) is)
      ∙ ap (λ b. cond (is_of_kind b (Blob content)) (node_within held n (Blob content)) (Err (BadObject e.id 0))) kind ∙ of_blob held n content

  pub tree_child : (n : ℕ) (e : ObjectEntry) (es : List ObjectEntry) (nodes : Children) → e.tree ≡ true → object_at held e.id ≡ Some (Tree es) → nodes_by (child_at n) es ≡ Ok nodes → child_at (suc n) e ≡ Ok (tree nodes)
  tree_child n e es nodes kind is all =
      ap (λ r. r >>= λ object. cond (is_of_kind e.tree object) (node_within held (suc n) object) (Err (BadObject e.id 0))) (found_of e.id (Tree es) is)
      ∙ ap (λ b. cond (is_of_kind b (Tree es)) (node_within held (suc n) (Tree es)) (Err (BadObject e.id 0))) kind ∙ of_tree held n es ∙ ap (λ r. r >>= λ cs. Ok (tree cs)) all

  pub one_more : (n : ℕ) (e : ObjectEntry) (es : List ObjectEntry) (s : Summary) (rest : Children) → child_at n e ≡ Ok s → nodes_by (child_at n) es ≡ Ok rest → nodes_by (child_at n) (e ∷ es) ≡ Ok (child e.name s rest)
  one_more n e es s rest first others =
      ap (λ r. r >>= λ t. (nodes_by (child_at n) es >>= λ nodes. Ok (child e.name t nodes))) first ∙ ap (λ r. r >>= λ nodes. Ok (child e.name s nodes)) others

  pub tree_fetched : (id : List ℕ) (es : List ObjectEntry) (cs : Children) → object_at held id ≡ Some (Tree es) → nodes_by (child_at 31) es ≡ Ok cs → fetched held 32 id ≡ Ok (tree cs)
  tree_fetched id es cs is all = ap (λ r. r >>= node_within held 32) (found_of id (Tree es) is) ∙ of_tree held 31 es ∙ ap (λ r. r >>= λ nodes. Ok (tree nodes)) all
