use Rattle.fluid_world.proofs.running.show_last.Given as goal

abbrev pub ghost-load_behind : goal.ghost-load_behind
ghost-load_behind g a = g.good
