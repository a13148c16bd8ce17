use Rattle.std.proofs.Common.{◌≡◌, map, take}
use Rattle.fluid_runtime.specs.Shown.{shown_channel}
use Rattle.fluid_runtime.specs.Slots.{channel_of}
use Rattle.fluid_runtime.proofs.shown.shown.Given as goal

-- the members so far
abbrev pub invariant-loop-address : goal.invariant-loop-address
invariant-loop-address l = l.pairs ≡ map (λ e. (e.0, shown_channel (channel_of e.1))) (take l.address-index l.slice)
