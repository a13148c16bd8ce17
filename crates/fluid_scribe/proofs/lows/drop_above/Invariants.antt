use Rattle.std.proofs.Common.{◌≡◌, ◌+◌}
use Rattle.std.specs.VecDeque.{deque_len, deque_capacity}
use Rattle.fluid_scribe.specs.Waiting.{cut}
use Rattle.fluid_scribe.proofs.lows.drop_above.Given as goal

-- one is gone each time, and what is left is cut as all are
abbrev pub invariant-loop-index : goal.invariant-loop-index
invariant-loop-index l = record {
  cut : cut l.reference l.list.items ≡ cut l.reference l.fn.list.items;
  len : deque_len l.list + l._index ≡ deque_len l.fn.list;
  capacity : deque_capacity l.list ≡ deque_capacity l.fn.list;
}
