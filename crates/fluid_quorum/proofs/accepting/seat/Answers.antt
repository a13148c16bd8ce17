use Rattle.std.proofs.Common.{T, Some, ap, sym, subst, ◌∙◌}
use Rattle.std.specs.Prelude.{IsSome}
use Rattle.std.specs.FinMap.{insert}
use Rattle.fluid_quorum.specs.Places.{table_at, HasPlace}
use Rattle.fluid_quorum.proofs.Placed.{valued}
use Rattle.fluid_quorum.proofs.accepting.seat.Goals as goal

pub returns-in-Some-clause-members : goal.returns-in-Some-clause-members
returns-in-Some-clause-members c =
    let held = c.get_mut.follows.holds (Some c.args.member) in
    let place = subst (HasPlace c.args.members.now) (sym c.as_str.ensures.bytes) c.requires in
    valued c.args.members.now (c.get_mut.follows.lender (Some c.args.member)) c.get_mut.ensures.ordered held.4 c.as_str.result.now c.args.member (held.3 place)
    ∙ ap (λ id. insert (table_at c.args.members.now) id c.args.member) c.as_str.ensures.bytes

pub returns-in-None-clause-members : goal.returns-in-None-clause-members
returns-in-None-clause-members c =
    let place = subst (HasPlace c.args.members.now) (sym c.as_str.ensures.bytes) c.requires in
    absurd (subst T (sym (subst IsSome (sym c.in-None.ensures.value) place)) tt)
