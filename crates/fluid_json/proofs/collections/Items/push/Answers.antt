use Rattle.fluid_json.proofs.Grown.{item_added}
use Rattle.fluid_json.proofs.collections.Items.push.Goals as goal

pub invariant_of-self-2 : goal.invariant_of-self-2
invariant_of-self-2 c = rw c.in_ok-push.ensures.items (item_added _ _ c.self.invariant c.canonical.ensures)
