use Rattle.fluid_json.proofs.Grown.{member_added}
use Rattle.fluid_json.proofs.collections.Pairs.push.Goals as goal

pub invariant_of-self-2 : goal.invariant_of-self-2
invariant_of-self-2 c =
    rw c.in_ok-push.ensures.items (member_added _ _ _ (rw c.self.view_is c.requires) c.self.invariant c.canonical.ensures)
