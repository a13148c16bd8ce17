use Rattle.std.proofs.Common.{◌∙◌, ap}
use Rattle.std.specs.Prelude.{codes}
use Rattle.fluid_tree.specs.Object.{tree_bytes, with_header}
use Rattle.fluid_tree.proofs.EntryMap.{bytes_in_order}
use Rattle.fluid_tree.proofs.writing.tree_bytes.Goals as goal

pub returns : goal.returns
unfolding tree_bytes
returns c = c.in_ok-bytes.ensures ∙ ap (with_header (codes "tree")) (c.as_slice.ensures.value ∙ c.in_ok-body.ensures ∙ bytes_in_order _ _ c.in_ok-sorted.ensures)
