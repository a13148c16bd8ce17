use Rattle.std.proofs.Common.{◌≡◌, drop}
use Rattle.fluid_callers.specs.Reaching.{connected_to}
use Rattle.fluid_callers.proofs.sending.connected_to.Given as goal

-- none of those before connects
abbrev pub invariant-loop-act : goal.invariant-loop-act
invariant-loop-act l = connected_to (drop l.act-index l.acts) ≡ connected_to l.acts
