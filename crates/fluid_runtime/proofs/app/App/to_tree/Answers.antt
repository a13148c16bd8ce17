use Rattle.std.proofs.Common.{◌≡◌, Ok}
use Rattle.fluid_runtime.specs.AppTree.{answer, AreBounded}
use Rattle.fluid_runtime.specs.Slots.{channels_of}
use Rattle.fluid_runtime.proofs.Bounded.{with_names}
use Rattle.fluid_runtime.proofs.app.App.to_tree.Goals as goal

pub returns-clause-reads_back : goal.returns-clause-reads_back
returns-clause-reads_back c =
    let channels = channels_of c.self.inside.slots.values in
    rw (← c.self.view_is) (with_names (λ node. AreBounded channels → answer node ≡ Ok channels) c.tree_of.result c.self.invariant.1.1.1 c.tree_of.ensures.reads_back)
