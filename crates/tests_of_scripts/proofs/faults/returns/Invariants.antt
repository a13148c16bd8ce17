use Rattle.std.specs.Prelude.{None}
use Rattle.tests_of_scripts.proofs.faults.returns.Given as goal

abbrev pub ghost-script_within : goal.ghost-script_within
ghost-script_within g a = None
