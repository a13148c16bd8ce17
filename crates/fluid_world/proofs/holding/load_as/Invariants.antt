use Rattle.fluid_world.proofs.holding.load_as.Given as goal

abbrev pub ghost-load : goal.ghost-load
ghost-load g a = g.good
