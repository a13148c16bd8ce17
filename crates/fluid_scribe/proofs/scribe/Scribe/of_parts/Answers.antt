use Rattle.fluid_scribe.proofs.scribe.Scribe.of_parts.Goals as goal

pub returns-clause-within : goal.returns-clause-within
returns-clause-within c = c.of_order.ensures.within

pub returns-clause-stands : goal.returns-clause-stands
returns-clause-stands c = c.of_order.ensures.stands
