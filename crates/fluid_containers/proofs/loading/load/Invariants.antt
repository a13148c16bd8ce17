use Rattle.fluid_containers.proofs.loading.load.Given as goal

abbrev pub ghost-load_on : goal.ghost-load_on
ghost-load_on g a = g.good
