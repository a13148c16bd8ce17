use Rattle.std.proofs.Common.{rules, ◌≡◌, ◌-◌, ◌<◌, arith, length, min}
use Rattle.std.specs.VecDeque.{deque_len, deque_capacity}
use Rattle.fluid_scribe.proofs.Lowest.{few}
use Rattle.fluid_scribe.proofs.waiting.Waiting.enter.Goals as goal

pub push-self-inside-requires : goal.push-self-inside-requires
push-self-inside-requires c = λ known.
    let short = few c.self.inside.queue.items c.self.inside.lows (c.self.invariant known) in
    let all : length c.self.inside.queue.items ≡ deque_len c.self.inside.queue = search rules in
    let own : length c.self.inside.lows.list.items ≡ deque_len c.self.inside.lows.list = search rules in
    let room : 0 < min (deque_capacity c.self.inside.queue - deque_len c.self.inside.queue) (deque_capacity c.self.inside.lows.list - deque_len c.self.inside.queue) = rw (← c.self.view_is) at c.requires in
    omega (arith, short, all, own, room)
