-- What is read of a node.
use Rattle.std.proofs.Common.{◌≡◌, ℕ, List, [], ◌∷◌, ◌++◌, map, codes, Option, Some, None, refl, sym, ap, ◌∙◌, append_assoc}
use Rattle.std.proofs.lemmas.Option.{none-some, same_Some}
use Rattle.fluid_tree.specs.Summary.{Summary, blob, tree, handle, Children, as_blob, as_children, children}
use Rattle.fluid_tree.specs.Object.{object_bytes, tree_bytes}
use Rattle.fluid_tree.specs.declared.object.Object.TheVariants.{Blob, Tree}
use Rattle.fluid_tree.specs.declared.object.ObjectEntry.{ObjectEntry}
use Rattle.fluid_rules.specs.Scribe.{blob_entry, tree_entry, protocol_id}
use Rattle.fluid_store.specs.Listed.{object_of}
use Rattle.fluid_store.specs.declared.listing.StoredObject.{StoredObject}
use Rattle.fluid_versions.specs.Versions.{content_of, contents, blobs_in, version_tree, version_objects}

pub no_content : (s : Summary) → None ≡ as_blob s → [] ≡ content_of s
no_content (blob own) is = absurd (none-some _ is)
no_content (tree nodes) is = refl
no_content (handle path) is = refl

pub no_nodes : (s : Summary) → None ≡ as_children s → [] ≡ blobs_in s
no_nodes (blob own) is = refl
no_nodes (tree own) is = absurd (none-some _ is)
no_nodes (handle path) is = refl

-- ---- objects

pub tree_object : (bytes : List ℕ) (entries : List ObjectEntry) → bytes ≡ tree_bytes entries → object_of bytes ≡ object_of (object_bytes (Tree entries))
unfolding object_bytes
tree_object bytes entries is = ap object_of is

-- those of a version are the blobs', the tree's and the version's
pub listed : (app : List ℕ) (blobs : List (List ℕ × List ℕ)) (own version : StoredObject) (prefix : List StoredObject) → prefix ≡ map (λ b. object_of (object_bytes (Blob b.1))) blobs → own ≡ object_of (object_bytes (Tree (map blob_entry blobs)))
    → version ≡ object_of (object_bytes (Tree (tree_entry (codes ".app") app ∷ tree_entry (codes ".protocol") own.id ∷ []))) → (prefix ++ own ∷ []) ++ version ∷ [] ≡ version_objects app blobs
unfolding protocol_id
listed app blobs own version prefix prefixes is_own is_version =
    append_assoc prefix (own ∷ []) (version ∷ [])
    ∙ ap (λ f. f ++ own ∷ version ∷ []) prefixes
    ∙ ap (λ v. map (λ b. object_of (object_bytes (Blob b.1))) blobs ++ own ∷ v ∷ []) (is_version ∙ ap (λ o. object_of (object_bytes (Tree (tree_entry (codes ".app") app ∷ tree_entry (codes ".protocol") o ∷ [])))) (ap (λ (o : StoredObject). o.id) is_own))
    ∙ ap (λ o. map (λ b. object_of (object_bytes (Blob b.1))) blobs ++ o ∷ object_of (object_bytes (version_tree app blobs)) ∷ []) is_own
