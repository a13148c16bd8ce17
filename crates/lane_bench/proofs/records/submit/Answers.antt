use Rattle.std.proofs.Common.{refl}
use Rattle.lane_bench.proofs.Entered.{entered_one}
use Rattle.lane_bench.proofs.records.submit.Goals as goal

pub returns : goal.returns
returns g c = entered_one _ _ _ _ _ c.unless_refused.ensures (λ a. refl) c.submit.ensures.goes
