use Rattle.fluidd.proofs.run.run.Given as goal

abbrev pub ghost-run_script : goal.ghost-run_script
ghost-run_script g a = g.told

abbrev pub ghost-run_workload : goal.ghost-run_workload
ghost-run_workload g a = g.told
