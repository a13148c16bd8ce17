use Rattle.fluid_load.proofs.running.told_objects.Given as goal

abbrev pub ghost-tell : goal.ghost-tell
ghost-tell g a = g.good
