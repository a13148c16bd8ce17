use Rattle.fluid_load.proofs.working.Working.state.Goals as goal

pub returns : goal.returns
returns g c = rw (← c.self.view_is) (λ w named. c.state.ensures w named)
