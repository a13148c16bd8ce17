use Rattle.fluid_load.proofs.running.begin.Given as goal

abbrev pub ghost-told_objects : goal.ghost-told_objects
ghost-told_objects g a = g.good

abbrev pub ghost-tell : goal.ghost-tell
ghost-tell g a = g.good
