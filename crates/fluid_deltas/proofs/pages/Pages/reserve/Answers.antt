use Rattle.std.proofs.Common.{rules, ◌≡◌, ◌<◌, ◌++◌, length, ap, ◌∙◌, subst, sym}
use Rattle.fluid_deltas.specs.Pages.{joined}
use Rattle.fluid_deltas.proofs.Paging.{turned}
use Rattle.fluid_deltas.proofs.pages.Pages.reserve.Goals as goal

pub invariant_of-self : goal.invariant_of-self
invariant_of-self c =
    let full = c.self.inside.full.items in
    let last = c.self.inside.last in
    let whole : length last.items ≡ 256 = search rules in
    let few : length (joined full ++ last.items) < 4096 = subst (λ p. length p.messages < 4096) (sym c.self.view_is) c.requires in
    (turned (λ v. v.items) c.turn.result full c.turn.new.full.items last c.turn.new.last c.self.invariant whole few c.turn.ensures.full c.turn.ensures.last c.turn.ensures.same).pages

pub returns-then-len-eq-PAGE-clause-messages : goal.returns-then-len-eq-PAGE-clause-messages
returns-then-len-eq-PAGE-clause-messages c =
    let full = c.self.inside.full.items in
    let last = c.self.inside.last in
    let whole : length last.items ≡ 256 = search rules in
    let few : length (joined full ++ last.items) < 4096 = subst (λ p. length p.messages < 4096) (sym c.self.view_is) c.requires in
    (turned (λ v. v.items) c.turn.result full c.turn.new.full.items last c.turn.new.last c.self.invariant whole few c.turn.ensures.full c.turn.ensures.last c.turn.ensures.same).messages
    ∙ ap (λ p. p.messages) c.self.view_is
