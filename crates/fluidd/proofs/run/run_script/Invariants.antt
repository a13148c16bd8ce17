use Rattle.fluidd.proofs.run.run_script.Given as goal

abbrev pub ghost-script : goal.ghost-script
ghost-script g a = g.told
