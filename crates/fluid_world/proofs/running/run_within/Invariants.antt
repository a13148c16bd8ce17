use Rattle.std.specs.Prelude.{is_some}
use Rattle.fluid_world.proofs.running.run_within.Given as goal

abbrev pub ghost-begin : goal.ghost-begin
ghost-begin g a = is_some g.W.Origin.told
