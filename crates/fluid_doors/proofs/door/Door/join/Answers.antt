use Rattle.std.proofs.Common.{sym, ap, subst, ◌∙◌}
use Rattle.fluid_turn.specs.Entries.{entries}
use Rattle.fluid_lane.specs.Steps.{steps_of}
use Rattle.fluid_doors.specs.Passing.{Grows, adding}
use Rattle.fluid_doors.specs.Entering.{Joins, joined_as, with_id}
use Rattle.fluid_doors.proofs.Passes.{grows_by, joined_steps}
use Rattle.fluid_doors.proofs.Tails.{stands_on}
use Rattle.fluid_doors.proofs.door.Door.join.Goals as goal

pub close_joined-requires-clause-stands : goal.close_joined-requires-clause-stands
close_joined-requires-clause-stands g c = stands_on _ _ _ _ _ _ c.join-answer.ensures.tail c.join-answer.ensures.goes c.take_noted-held.ensures.stands

pub returns : goal.returns
returns g c =
    let h = c.take_noted-held in let a = c.join-answer in let e = c.close_joined.ensures in
    let steps = joined_steps c.args.scopes c.args.detail c.args.moment a.result a.ensures.raw in
    subst (λ r. Grows c.args.pass c.close_joined.result.0 (steps_of (joined_as c.args.scopes c.args.detail c.args.moment) r) (Joins c.args.self.now.turn.fixed c.args.scopes c.args.detail c.args.moment r)) (sym e.same)
    (grows_by c.args.pass _ _ h.result.place.list (steps_of (joined_as c.args.scopes c.args.detail c.args.moment) (with_id a.result)) _ h.ensures.seat (e.pass ∙ ap (λ added. adding added h.result.place.seat) steps) e.few h.ensures.list
    (subst (λ t. Joins t c.args.scopes c.args.detail c.args.moment (with_id a.result) (entries h.result.place.list)) (h.ensures.fixed ∙ ap (λ d. d.turn.fixed) c.self.view_is) (a.ensures.says _ h.ensures.stands.lane)))
