use Rattle.fluid_world.proofs.holding.pump_as.Given as goal

abbrev pub ghost-pump : goal.ghost-pump
ghost-pump g a = g.good
