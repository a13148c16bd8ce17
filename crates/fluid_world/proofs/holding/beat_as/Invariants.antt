use Rattle.fluid_world.proofs.holding.beat_as.Given as goal

abbrev pub ghost-beat : goal.ghost-beat
ghost-beat g a = g.good
