use Rattle.std.proofs.Common.{refl, sym, subst}
use Rattle.fluid_roamers.specs.Sending.{LeavesSent}
use Rattle.fluid_roamers.specs.declared.sending.Sent.TheVariants.{Taken, Refused}
use Rattle.fluid_roamers.proofs.sending.became.Goals as goal

pub returns-in-None-clause-does : goal.returns-in-None-clause-does
returns-in-None-clause-does c = λ past stands. subst (λ refused. LeavesSent past c.args.roamer.now c.args.roamer.now refused Taken) (sym c.in-None.is) (refl, refl)

pub returns-in-Some-clause-does : goal.returns-in-Some-clause-does
returns-in-Some-clause-does c = λ past stands. subst (λ refused. LeavesSent past c.args.roamer.now c.lose.new.self refused (Refused c.in-Some.rule)) (sym c.in-Some.is) (refl, c.lose.ensures.does past stands)
