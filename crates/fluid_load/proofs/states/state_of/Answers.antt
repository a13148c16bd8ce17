use Rattle.fluid_load.proofs.Summed.{tree_told}
use Rattle.fluid_load.proofs.states.state_of.Goals as goal

pub returns : goal.returns
returns c = tree_told c.args.holder.now.container.channels c.in_ok-tree.tree c.tree_id.result c.in_ok-tree.ensures.tree c.tree_id.ensures
