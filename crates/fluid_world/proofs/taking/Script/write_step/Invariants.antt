use Rattle.fluid_world.proofs.taking.Script.write_step.Given as goal

abbrev pub ghost-take_step : goal.ghost-take_step
ghost-take_step g a = a._may.now.value
