use Rattle.fluid_world.proofs.running.script_within.Given as goal

abbrev pub ghosts-run_within : goal.ghosts-run_within
ghosts-run_within g a = record { told = g.told }
