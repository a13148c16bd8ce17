use Rattle.fluid_load.proofs.working.Working.pass.Given as goal

abbrev pub ghost-pass_step : goal.ghost-pass_step
ghost-pass_step g a = a.may.now.value
