use Rattle.std.proofs.Common.{rules, ◌≤◌, ◌<◌, subst, arith}
use Rattle.fluid_types.specs.Forms.{largest}
use Rattle.fluid_loader.specs.Fitting.{MaySubmit}
use Rattle.fluid_loader.proofs.Fitted.{next_fits}
use Rattle.fluid_loader.proofs.container.Container.has_numbers.Goals as goal

pub returns-clause-fits : goal.returns-clause-fits
returns-clause-fits c = λ few.
    let left : c.self.inside.last < largest = search (rules, few) in
    let within : c.self.inside.number ≤ largest = omega (arith, c.self.invariant.number_fits) in
    subst MaySubmit c.self.view_is (next_fits _ left within c.known_size.ensures)
