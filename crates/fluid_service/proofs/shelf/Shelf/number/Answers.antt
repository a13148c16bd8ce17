use Rattle.std.proofs.Common.{◌+◌, ◌∙◌, ap, length, arith}
use Rattle.fluid_service.specs.Shelved.{Shelved}
use Rattle.fluid_service.proofs.Standings.{number_is}
use Rattle.fluid_service.proofs.shelf.Shelf.number.Goals as goal

pub returns-clause-steps : goal.returns-clause-steps
returns-clause-steps g c = λ l stands. ap (λ n. n + c.self.inside.failed) c.len.ensures ∙ ap (λ (s : Shelved). length s.visits + s.failed) c.self.view_is ∙ number_is c.args.self.now l stands

pub returns-clause-few : goal.returns-clause-few
returns-clause-few g c = let n = c.self.invariant.0.numbered in let m = c.len.ensures in omega (arith, n, m)

pub overflow_add-result : goal.overflow_add-result
overflow_add-result g c = let n = c.self.invariant.0.numbered in let m = c.len.ensures in omega (arith, n, m)
