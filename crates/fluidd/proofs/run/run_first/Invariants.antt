use Rattle.std.specs.Prelude.{Some}
use Rattle.std.specs.FinMap.{empty}
use Rattle.fluid_transcript.specs.World.{first_world}
use Rattle.fluidd.proofs.run.run_first.Given as goal

abbrev pub ghost-run : goal.ghost-run
ghost-run g a = Some (first_world empty empty)
