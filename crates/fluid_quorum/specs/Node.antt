-- A quorum as a tree of a summary: four blobs under their names.
use Rattle.std.specs.Prelude.{ℕ, List, map, IsUtf8}
use Rattle.fluid_tree.specs.Summary.{Summary, blob, tree, children}
use Rattle.fluid_types.specs.Quorum.{Quorum}
use Rattle.fluid_types.specs.declared.quorum.QuorumBlob.{QuorumBlob}
use Rattle.fluid_types.specs.Blobs.{blob_text, blobs_of}

-- the tree of these blobs
abbrev pub tree_of : List (List ℕ × List ℕ) → Summary
tree_of blobs = tree (children (map (λ b. (b.0, blob b.1)) blobs))

unfoldable pub node_of : Quorum → Summary
node_of q = tree_of (blobs_of q)

-- the contents of its blobs are UTF-8
abbrev pub AreTexts : Quorum → Type 0
AreTexts q = (b : QuorumBlob) → IsUtf8 (blob_text q b)
