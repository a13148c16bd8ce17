use Rattle.std.proofs.Common.{Result, Ok, Err}
use Rattle.std.specs.Prelude.{IfOk}
use Rattle.fluid_lane.specs.Standing.{Standing}
use Rattle.fluid_opening.specs.declared.fault.DoorFault.{DoorFault}
use Rattle.fluid_opening.specs.Opening.{OpensOver}
use Rattle.fluid_log.proofs.Lending.{given_out}
use Rattle.fluid_opening.proofs.Returning.{opened, over, shelved, risen}
use Rattle.fluid_opening.proofs.opening.start_lane.Goals as goal

pub start_over-requires-clause-out : goal.start_over-requires-clause-out
start_over-requires-clause-out g c = given_out _ _ _ _ c.in-Ok.ensures.does

pub returns-in-Ok-clause-does : goal.returns-in-Ok-clause-does
returns-in-Ok-clause-does g c = opened c.args.limits c.args.name.now c.args.moment _ _ _ _ c.in-Ok.ensures.does c.start_over.result c.start_over.ensures.does

pub returns-in-Ok-clause-back : goal.returns-in-Ok-clause-back
returns-in-Ok-clause-back g c =
    shelved c.args.limits c.args.name.now c.args.moment _ _ _ _ c.in-Ok.ensures.does c.start_over.result c.requires.closed c.start_over.ensures.does

pub returns-in-Ok-clause-cause : goal.returns-in-Ok-clause-cause
returns-in-Ok-clause-cause g c =
    risen c.args.limits c.args.name.now c.args.moment _ _ _ _ c.in-Ok.ensures.does c.start_over.result c.in-Ok.ensures.cause.later c.start_over.ensures.does

given_by : {K : Type 0} (keeper : K) (P : K → Standing → Type 0) (result : Result Standing DoorFault) → IfOk result (P keeper) → IfOk result (λ lane. (keeper : K) × P keeper lane)
given_by keeper P (Ok lane) is = (keeper, is)
given_by keeper P (Err fault) is = tt

pub returns-in-Ok-clause-given : goal.returns-in-Ok-clause-given
returns-in-Ok-clause-given g c =
    given_by c.in-Ok.keeper (λ keeper. OpensOver c.args.limits c.args.name.now c.args.moment _ _ (g.B.K.Keeper.seen keeper)) c.start_over.result
    (over c.args.limits c.args.name.now c.args.moment _ _ _ _ c.in-Ok.ensures.does c.start_over.result c.start_over.ensures.does)
