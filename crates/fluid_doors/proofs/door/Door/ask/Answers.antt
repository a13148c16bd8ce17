use Rattle.std.proofs.Common.{[], ap, subst, ◌∙◌}
use Rattle.fluid_turn.specs.Entries.{entries}
use Rattle.fluid_doors.specs.Scribing.{IsJobOf}
use Rattle.fluid_doors.proofs.Answering.{if_ok}
use Rattle.fluid_doors.proofs.Passes.{grows_by, adding_none}
use Rattle.fluid_doors.proofs.door.Door.ask.Goals as goal

pub returns-clause-job : goal.returns-clause-job
returns-clause-job g c =
    let h = c.take_noted-held in let e = c.close.ensures in
    if_ok _ _ _ (λ given is.
    grows_by c.args.pass _ _ h.result.place.list [] _ h.ensures.seat (e.pass ∙ adding_none h.result.place.seat) e.few h.ensures.list
    (subst (λ t. IsJobOf t given (entries h.result.place.list)) (h.ensures.fixed ∙ ap (λ t. t.fixed) c.turn.ensures) is))
    (c.job-asked.ensures.says _ h.ensures.stands.lane)

pub returns-clause-same : goal.returns-clause-same
returns-clause-same g c =
    let h = c.take_noted-held in let e = c.close.ensures in
    grows_by c.args.pass _ _ h.result.place.list [] _ h.ensures.seat (e.pass ∙ adding_none h.result.place.seat) e.few h.ensures.list tt
