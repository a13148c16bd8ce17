use Rattle.std.proofs.Common.{sym, ap, subst, ◌∙◌}
use Rattle.fluid_turn.specs.Entries.{entries}
use Rattle.fluid_lane.specs.Steps.{steps_of}
use Rattle.fluid_doors.specs.Passing.{Grows, adding}
use Rattle.fluid_doors.specs.Entering.{Sweeps, swept_as, with_left, verdict_left}
use Rattle.fluid_doors.proofs.Passes.{grows_by, swept_steps}
use Rattle.fluid_doors.proofs.Tails.{stands_on}
use Rattle.fluid_doors.proofs.door.Door.sweep.Goals as goal

pub close_swept-requires-clause-stands : goal.close_swept-requires-clause-stands
close_swept-requires-clause-stands g c = stands_on _ _ _ _ _ _ c.sweep-answer.ensures.tail c.sweep-answer.ensures.goes c.take_noted-held.ensures.stands

pub returns : goal.returns
returns g c =
    let h = c.take_noted-held in let a = c.sweep-answer in let e = c.close_swept.ensures in
    let verdict = verdict_left a.result in
    let steps = swept_steps c.args.moment a.result a.ensures.raw in (
      verdict,
      subst (λ r. Grows c.args.pass c.close_swept.result.0 (steps_of (swept_as c.args.moment verdict) r) (Sweeps c.args.self.now.turn.fixed c.args.moment c.args.silence verdict r)) (sym e.same)
          (grows_by c.args.pass _ _ h.result.place.list (steps_of (swept_as c.args.moment verdict) (with_left a.result)) _ h.ensures.seat (e.pass ∙ ap (λ added. adding added h.result.place.seat) steps) e.few h.ensures.list
          (subst (λ t. Sweeps t c.args.moment c.args.silence verdict (with_left a.result) (entries h.result.place.list)) (h.ensures.fixed ∙ ap (λ d. d.turn.fixed) c.self.view_is) (a.ensures.says _ h.ensures.stands.lane))),
    )
