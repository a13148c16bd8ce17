use Rattle.std.proofs.Common.{arith}
use Rattle.fluid_types.specs.Names.{entry_name}
use Rattle.fluid_types.proofs.EntryNames.{entry_name-is_name}
use Rattle.doors_bench.proofs.submitting.join_lane.Goals as goal

pub join-requires : goal.join-requires
join-requires g c =
    let n = c.args.lane.now.entries.entered in
    record { fits = c.in_ok-scopes.ensures (entry_name n) 4 (entry_name-is_name n (let is = c.entered-number.ensures.is in let few = c.entered-number.ensures.few in omega (arith, is, few))) (omega arith) }
