use Rattle.std.proofs.Common.{◌≡◌, ◌≤◌, length, take}
use Rattle.fluid_loader.specs.Link.{picked}
use Rattle.fluid_loader.proofs.acknowledging.picked_in.Given as goal

abbrev pub decreases-loop-behind : goal.decreases-loop-behind
decreases-loop-behind l = l.behind

-- none of those behind is picked
abbrev pub invariant-loop-behind : goal.invariant-loop-behind
invariant-loop-behind l = record {
  within : l.behind ≤ length l.order;
  before : picked l.pick (take l.behind l.order) ≡ picked l.pick l.order;
}
