use Rattle.std.proofs.Common.{ℕ, sym, ◌∙◌, subst}
use Rattle.fluid_turn.specs.Seats.{StandsFixed}
use Rattle.fluid_turn.specs.Seated.{IsHolding}
use Rattle.fluid_turn.specs.Steps.{HasNews}
use Rattle.fluid_turn.proofs.Seating.{still_holding}
use Rattle.fluid_turn.proofs.held.Place.note.Goals as goal

pub invariant_of-self : goal.invariant_of-self
invariant_of-self g c =
    let stands = g.T.Chronicle.stands in
    let fixed = g.T.Chronicle.fixed in
    let turn = c.self.inside.turn.now in
    let same = c.note.ensures.same in
    let news = subst (λ t. HasNews (StandsFixed stands fixed t.fixed) t.began c.self.inside.token.id c.self.inside.token.me c.note.new.token.me) c.turn.view_is c.note.ensures.noted in (
      same.0 ∙ c.self.invariant.0,
      subst (λ n. IsHolding (StandsFixed stands fixed turn.fixed) turn.began n c.self.inside.ticket c.note.new.token.me) (sym {A = ℕ} same.1)
          (still_holding (StandsFixed stands fixed turn.fixed) turn.began _ _ _ _ c.self.invariant.1 news),
    )
