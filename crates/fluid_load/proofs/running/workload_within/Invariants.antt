use Rattle.std.specs.Prelude.{is_some}
use Rattle.fluid_load.proofs.running.workload_within.Given as goal

abbrev pub ghost-begin : goal.ghost-begin
ghost-begin g a = is_some g.told
