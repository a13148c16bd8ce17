use Rattle.fluid_containers.proofs.loading.load_last.Given as goal

abbrev pub ghost-load_last_on : goal.ghost-load_last_on
ghost-load_last_on g a = g.good
