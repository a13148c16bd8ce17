use Rattle.std.proofs.Common.{sym, subst, arith}
use Rattle.fluid_types.specs.Names.{entry_name}
use Rattle.fluid_types.proofs.EntryNames.{entry_name-is_name}
use Rattle.fluid_acts.specs.Parts.{IsJoined}
use Rattle.fluid_acts.proofs.Entering.{join_answered, join_refused}
use Rattle.fluid_acts.proofs.doing.join.Goals as goal

pub join-requires : goal.join-requires
join-requires g c = record { fits = c.requires (entry_name c.args.lane.now.entries.entered) (entry_name-is_name _ (omega (arith, c.entered-entered.ensures.is, c.entered-entered.ensures.few))) }

pub joined-requires : goal.joined-requires
joined-requires g c = subst (λ r. IsJoined r) (sym c.in-Ok.ensures.raw) tt

pub returns-in-Ok : goal.returns-in-Ok
returns-in-Ok g c = λ name.
    let e = c.in-Ok.ensures in
    join_answered c.lanes_say_their_ledgers.ensures.says name c.args.scopes c.args.detail c.args.moment c.args.lane.now c.entered-entered.ensures.named c.entered-entered.ensures.own
    c.in-Ok.raw c.in-Ok.message c.joined.result _ e.goes e.gate e.enters e.raw e.said c.joined.ensures

pub returns-in-Err : goal.returns-in-Err
returns-in-Err g c = λ name.
    let e = c.in-Err.ensures in
    rw c.refused.ensures
    (join_refused c.lanes_say_their_ledgers.ensures.says name c.args.scopes c.args.detail c.args.moment c.args.lane.now c.entered-entered.ensures.named c.entered-entered.ensures.own
    _ _ c.in-Err.fault e.goes e.gate e.enters)
