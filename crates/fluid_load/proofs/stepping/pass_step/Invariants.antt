use Rattle.fluid_load.proofs.stepping.pass_step.Given as goal

abbrev pub ghost-take_step : goal.ghost-take_step
ghost-take_step g a = g.good
