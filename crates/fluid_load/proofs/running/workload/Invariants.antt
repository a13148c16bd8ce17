use Rattle.fluid_load.proofs.running.workload.Given as goal

abbrev pub ghost-workload_within : goal.ghost-workload_within
ghost-workload_within g a = g.told
