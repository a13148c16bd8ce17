use Rattle.fluid_desk.proofs.Steps.{numbers}
use Rattle.fluid_desk.proofs.on_lane.numbers_of.Goals as goal

pub returns : goal.returns
returns g c = λ limits d of. numbers limits _ d _ of c.entered.ensures.is c.seq.ensures.is c.min.ensures
