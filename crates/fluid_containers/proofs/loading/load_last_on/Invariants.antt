use Rattle.fluid_containers.proofs.loading.load_last_on.Given as goal

abbrev pub ghost-load_lane : goal.ghost-load_lane
ghost-load_lane g a = g.good
