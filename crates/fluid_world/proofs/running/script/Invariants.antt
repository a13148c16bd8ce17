use Rattle.fluid_world.proofs.running.script.Given as goal

abbrev pub ghost-script_within : goal.ghost-script_within
ghost-script_within g a = g.told
