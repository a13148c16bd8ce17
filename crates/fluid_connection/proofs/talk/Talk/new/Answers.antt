use Rattle.std.proofs.Common.{sym, subst, ap}
use Rattle.fluid_connection.specs.Talked.{IsTalk}
use Rattle.fluid_connection.proofs.Standing.{unvisited, new_talk}
use Rattle.fluid_connection.proofs.talk.Talk.new.Goals as goal

pub invariant_of-result : goal.invariant_of-result
invariant_of-result g c = (subst (λ v. IsTalk (unvisited v c.args.key c.args.visit)) (sym c.new.ensures) (new_talk c.args.key c.args.visit), tt)

pub returns : goal.returns
returns g c = ap (λ v. unvisited v c.args.key c.args.visit) c.new.ensures
