use Rattle.fluid_clients.proofs.Grown.{begun}
use Rattle.fluid_clients.proofs.index.Least.new.Goals as goal

pub invariant_of-result : goal.invariant_of-result
invariant_of-result g c = rw (c.new.ensures.items, c.new-2.ensures.items) (begun g.T.Rank.number)
