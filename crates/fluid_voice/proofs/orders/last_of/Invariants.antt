use Rattle.std.proofs.Common.{◌≡◌, ◌≤◌, length, take, find, reverse, bytes_eq}
use Rattle.fluid_voice.proofs.orders.last_of.Given as goal

abbrev pub decreases-loop-behind : goal.decreases-loop-behind
decreases-loop-behind l = l.behind

-- none behind has the handle
abbrev pub invariant-loop-behind : goal.invariant-loop-behind
invariant-loop-behind l = record {
  within : l.behind ≤ length l.acks;
  before : find (λ ack. bytes_eq ack.handle l.handle) (reverse l.acks) ≡ find (λ ack. bytes_eq ack.handle l.handle) (reverse (take l.behind l.acks));
}
