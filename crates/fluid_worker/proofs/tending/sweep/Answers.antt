use Rattle.std.proofs.Common.{◌≡◌, true, rules}
use Rattle.fluid_worker.proofs.Sweeping.{sweeps_then, not_false}
use Rattle.fluid_worker.proofs.tending.sweep.Goals as goal

pub sweeps-init : goal.sweeps-init
sweeps-init g c = (tt, tt, c.requires.pass, λ q h. h)

pub sweeps-preserved : goal.sweeps-preserved
sweeps-preserved g c =
    let swept : c.sweep_one-back.result.1 ≡ true = search (not_false, rules) in
    (tt, tt, c.sweep_one-back.ensures.turn, λ q h. c.sweeps.invariant.3 q (sweeps_then _ _ _ _ _ _ c.sweep_one-back.ensures.does swept h))
