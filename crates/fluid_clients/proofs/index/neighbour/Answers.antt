use Rattle.std.proofs.Common.{◌≡◌, ◌+◌, ◌/◌, suc, inl, inr, arith}
use Rattle.fluid_clients.proofs.index.neighbour.Goals as goal

pub returns-then-node-eq0 : goal.returns-then-node-eq0
returns-then-node-eq0 c = inl (c.args.node / 2, omega (arith, c.if-node-eq0.true), omega arith)

pub returns-else-node-eq0 : goal.returns-else-node-eq0
returns-else-node-eq0 c = inr (c.args.node / 2, omega (arith, c.if-node-eq0.false), omega (arith, c.if-node-eq0.false))
