use Rattle.std.proofs.Common.{◌≡◌, ◌≤◌, length, take, find, reverse, bytes_eq}
use Rattle.fluid_door_link.proofs.answers.last_of.Given as goal

abbrev pub decreases-loop-behind : goal.decreases-loop-behind
decreases-loop-behind l = l.behind

-- none behind has the handle
abbrev pub invariant-loop-behind : goal.invariant-loop-behind
invariant-loop-behind l = record {
  within : l.behind ≤ length l.acks;
  before : find (λ ack. bytes_eq ack.handle l.id) (reverse l.acks) ≡ find (λ ack. bytes_eq ack.handle l.id) (reverse (take l.behind l.acks));
}
