use Rattle.std.proofs.Common.{rules, refl}
use Rattle.lane_bench.proofs.Entered.{entered_one}
use Rattle.lane_bench.proofs.records.join.Goals as goal

pub returns : goal.returns
returns g c = entered_one _ _ _ _ _ c.unless_refused.ensures (λ a. refl) c.join.ensures.goes

pub join-requires : goal.join-requires
join-requires g c = record { fits = c.requires c.args.lane.now.entries.entered (search rules) }
