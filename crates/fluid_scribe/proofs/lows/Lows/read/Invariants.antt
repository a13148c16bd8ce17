use Rattle.std.proofs.Common.{◌≡◌, ◌≤◌, take}
use Rattle.std.specs.VecDeque.{deque_len, deque_capacity}
use Rattle.fluid_scribe.specs.Waiting.{IsOf}
use Rattle.fluid_scribe.proofs.lows.Lows.read.Given as goal

-- those of the messages so far
abbrev pub invariant-loop-index : goal.invariant-loop-index
invariant-loop-index l = record {
  of : IsOf (take l.index l.messages.items) l.self;
  room : deque_len l.self.list ≤ l.index;
  capacity : deque_capacity l.self.list ≡ deque_capacity l.fn.self.list;
}
