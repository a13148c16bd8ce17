use Rattle.fluid_world.proofs.holding.summarize_as.Given as goal

abbrev pub ghost-summarize : goal.ghost-summarize
ghost-summarize g a = g.good
