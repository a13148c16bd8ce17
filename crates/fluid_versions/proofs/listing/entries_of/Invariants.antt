use Rattle.std.proofs.Common.{◌≡◌, ◌++◌, map, drop}
use Rattle.fluid_tree.specs.Summary.{children}
use Rattle.fluid_rules.specs.Scribe.{blob_entry}
use Rattle.fluid_versions.specs.Versions.{contents}
use Rattle.fluid_versions.proofs.listing.entries_of.Given as goal

abbrev pub invariant-loop-name : goal.invariant-loop-name
invariant-loop-name l = l.entries ++ map blob_entry (contents (children (drop l.name-index l.nodes))) ≡ map blob_entry (contents (children l.nodes))
