use Rattle.fluid_world.proofs.running.load_behind.Given as goal

abbrev pub ghost-load_last : goal.ghost-load_last
ghost-load_last g a = g.good
