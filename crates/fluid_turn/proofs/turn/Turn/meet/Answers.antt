use Rattle.std.proofs.Common.{ap, ◌∙◌, subst}
use Rattle.fluid_turn.specs.Seats.{IsOfTurn}
use Rattle.fluid_turn.proofs.turn.Turn.meet.Goals as goal

pub returns-clause-history : goal.returns-clause-history
returns-clause-history g c =
    let stands = g.T.Chronicle.stands in
    let fixed = g.T.Chronicle.fixed in
    let first = c.tell.ensures.0.0 ∙ ap (λ k. k.turn) (c.fork-of_first.ensures.same ∙ c.apart.ensures.same.0) ∙ c.requires.0 in
    let second = c.tell-2.ensures.0.0 ∙ ap (λ k. k.turn) (c.fork-of_second.ensures.same ∙ c.apart.ensures.same.1) ∙ c.requires.1 in (
      subst (λ t. IsOfTurn stands fixed t c.tell.new.seat.seen) first c.know.ensures.history,
      subst (λ t. IsOfTurn stands fixed t c.tell-2.new.seat.seen) second c.know-2.ensures.history,
    )
