use Rattle.fluid_deltas.proofs.Telling.{tells_each, tells_from}
use Rattle.fluid_document.proofs.Beginnings.{begun_nothing, begins_kept}
use Rattle.fluid_document.proofs.loading.begin.Goals as goal

pub returns-in-None-clause-begun : goal.returns-in-None-clause-begun
returns-in-None-clause-begun g c = rw c.in-None.is (tells_each _ _ (λ content. begun_nothing content _ c.new.ensures.entries))

pub returns-in-None-clause-kept : goal.returns-in-None-clause-kept
returns-in-None-clause-kept g c = λ l kept.
    tells_from _ _ _ (λ content is. begins_kept l _ content c.new.ensures.entries c.new.ensures.messages.0 c.new.ensures.messages.1 c.new.ensures.part is) kept
