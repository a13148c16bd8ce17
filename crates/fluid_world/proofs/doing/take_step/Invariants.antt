use Rattle.fluid_world.proofs.doing.take_step.Given as goal

abbrev pub ghost-load_as : goal.ghost-load_as
ghost-load_as g a = g.good

abbrev pub ghost-pump_as : goal.ghost-pump_as
ghost-pump_as g a = g.good

abbrev pub ghost-edit_as : goal.ghost-edit_as
ghost-edit_as g a = g.good

abbrev pub ghost-beat_as : goal.ghost-beat_as
ghost-beat_as g a = g.good

abbrev pub ghost-summarize_as : goal.ghost-summarize_as
ghost-summarize_as g a = g.good
