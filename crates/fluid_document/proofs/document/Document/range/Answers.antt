use Rattle.fluid_document.proofs.document.Document.range.Goals as goal

pub returns-clause-slice : goal.returns-clause-slice
returns-clause-slice g c = rw (← c.self.view_is) c.range.ensures.slice
