use Rattle.fluid_world.proofs.holding.edit_as.Given as goal

abbrev pub ghost-edit : goal.ghost-edit
ghost-edit g a = g.good
