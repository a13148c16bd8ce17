use Rattle.std.proofs.Common.{ℕ, sym, ap, ◌∙◌, subst, [], ◌∷◌, ◌++◌}
use Rattle.fluid_turn.specs.Entries.{entries}
use Rattle.fluid_turn.specs.Seats.{StandsFixed}
use Rattle.fluid_turn.specs.Seated.{IsHolding}
use Rattle.fluid_turn.proofs.Seating.{entering_holding}
use Rattle.fluid_turn.proofs.held.Place.enter.Goals as goal

pub invariant_of-self : goal.invariant_of-self
invariant_of-self g c =
    let stands = g.T.Chronicle.stands in
    let fixed = g.T.Chronicle.fixed in
    let turn = c.self.inside.turn.now in
    let same = c.enter.ensures.same in
    let noted = ap (λ p. p.seat.seen) c.self.view_is ∙ c.requires.noted ∙ sym (ap (λ p. p.list) c.self.view_is) in
    let x = c.requires.grown.0 in
    let e = c.args.entry.now in
    let grown = subst (λ p. StandsFixed stands fixed p.seat.turn.fixed x (entries p.list ++ e ∷ [])) (sym c.self.view_is) (c.requires.grown.1, c.requires.grown.2) in (
      same.0 ∙ c.self.invariant.0,
      subst (λ n. IsHolding (StandsFixed stands fixed turn.fixed) turn.began n c.self.inside.ticket c.enter.new.token.me) (sym {A = ℕ} same.1)
          (entering_holding (StandsFixed stands fixed turn.fixed) turn.began _ _ _ _ e x c.self.invariant.1 c.enter.ensures.entered noted grown),
    )
