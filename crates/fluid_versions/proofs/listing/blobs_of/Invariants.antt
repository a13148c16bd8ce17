use Rattle.std.proofs.Common.{◌≡◌, ◌++◌, map, drop}
use Rattle.fluid_tree.specs.Summary.{children}
use Rattle.fluid_tree.specs.Object.{object_bytes}
use Rattle.fluid_tree.specs.declared.object.Object.TheVariants.{Blob}
use Rattle.fluid_store.specs.Listed.{object_of}
use Rattle.fluid_versions.specs.Versions.{contents}
use Rattle.fluid_versions.proofs.listing.blobs_of.Given as goal

-- the objects so far, and then those left, are all
abbrev pub invariant-loop-node : goal.invariant-loop-node
invariant-loop-node l =
    l.objects.items ++ map (λ b. object_of (object_bytes (Blob b.1))) (contents (children (drop l.node-index l.nodes)))
    ≡ map (λ b. object_of (object_bytes (Blob b.1))) (contents (children l.nodes))
