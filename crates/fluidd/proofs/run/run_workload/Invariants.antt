use Rattle.fluidd.proofs.run.run_workload.Given as goal

abbrev pub ghost-workload : goal.ghost-workload
ghost-workload g a = g.told
