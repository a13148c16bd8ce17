use Rattle.fluid_world.proofs.running.conclude.Given as goal

abbrev pub ghost-show_last : goal.ghost-show_last
ghost-show_last g a = a.script.now.good
