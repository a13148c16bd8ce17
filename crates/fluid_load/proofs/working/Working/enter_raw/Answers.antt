use Rattle.fluid_load.proofs.working.Working.enter_raw.Goals as goal

pub returns-clause-does : goal.returns-clause-does
returns-clause-does g c = rw (← c.self.view_is) c.enter.ensures.does

pub returns-clause-runs : goal.returns-clause-runs
returns-clause-runs g c = rw (← c.self.view_is) c.enter.ensures.runs
