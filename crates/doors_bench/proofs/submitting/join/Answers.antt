use Rattle.std.proofs.Common.{arith}
use Rattle.fluid_types.specs.Names.{entry_name}
use Rattle.fluid_types.proofs.EntryNames.{entry_name-is_name}
use Rattle.doors_bench.proofs.submitting.join.Goals as goal

pub join-pass-requires-clause-fits : goal.join-pass-requires-clause-fits
join-pass-requires-clause-fits g c = λ n few. c.in_ok-scopes.ensures (entry_name n) 4 (entry_name-is_name n (omega (arith, few))) (omega arith)
