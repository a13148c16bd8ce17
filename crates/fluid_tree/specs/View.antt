-- The summary tree that a node stands for. Each node inside is already seen as its summary tree.
use Rattle.fluid_tree.specs.Summary.{Summary, blob, tree, handle, children}
use Rattle.fluid_tree.specs.declared.node.Kind.{Kind}
use Rattle.fluid_tree.specs.declared.node.Kind.TheVariants.{Blob, Tree, Handle}

abbrev pub summary_of : Kind → Summary
summary_of (Blob content) = blob content
summary_of (Tree entries) = tree (children entries.items)
summary_of (Handle path) = handle path
