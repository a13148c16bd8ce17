use Rattle.std.proofs.Common.{ap, ◌∙◌}
use Rattle.fluid_tree.specs.Object.{tree_bytes}
use Rattle.fluid_versions.proofs.Nodes.{tree_object}
use Rattle.fluid_versions.proofs.listing.tree_of.Goals as goal

pub returns : goal.returns
returns c = c.of.ensures ∙ tree_object _ _ (c.in_ok-bytes.ensures ∙ ap tree_bytes c.as_slice.ensures)
