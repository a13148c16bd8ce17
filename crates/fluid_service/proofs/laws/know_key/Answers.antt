use Rattle.fluid_service.proofs.laws.know_key.Goals as goal

pub returns-clause-few : goal.returns-clause-few
returns-clause-few g c = c.know.ensures.history.stood.1.0.few
