use Rattle.std.proofs.Common.{ap, ◌∙◌, ◌+ℤ◌}
use Rattle.std.proofs.lemmas.Int.{to_z-of_z}
use Rattle.fluid_counter.specs.Counter.{shown}
use Rattle.fluid_counter.proofs.Sums.{total-fits, sum_kept-fits, shown-fits, shown_behind}
use Rattle.fluid_counter.proofs.counter.SharedCounter.value.Goals as goal

pub overflow_add-result : goal.overflow_add-result
overflow_add-result c = rw (to_z-of_z _ _ (total-fits c.self.invariant), to_z-of_z _ _ (sum_kept-fits c.self.invariant)) (shown-fits c.self.invariant)

pub returns-clause-shown : goal.returns-clause-shown
returns-clause-shown c =
    rw (to_z-of_z _ _ (total-fits c.self.invariant), to_z-of_z _ _ (sum_kept-fits c.self.invariant), to_z-of_z _ _ (shown-fits c.self.invariant))
    (ap (λ s. c.self.inside.acknowledged +ℤ s) c.self.invariant.sum_is ∙ ap shown c.self.view_is)

pub returns-clause-stands : goal.returns-clause-stands
returns-clause-stands c = λ total amounts is. returns-clause-shown c ∙ shown_behind total amounts c.args.self.now.pending c.args.self.now.acknowledged is
