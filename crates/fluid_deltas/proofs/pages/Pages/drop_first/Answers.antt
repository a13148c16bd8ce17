use Rattle.std.proofs.Common.{◌≡◌, ◌<◌, ◌++◌, length, drop, ap, ◌∙◌, subst, sym, arith, length-append}
use Rattle.fluid_deltas.specs.Pages.{joined}
use Rattle.fluid_deltas.proofs.Paging.{joined_length, joined_behind}
use Rattle.fluid_deltas.proofs.pages.Pages.drop_first.Goals as goal

pub returns-clause-messages : goal.returns-clause-messages
returns-clause-messages c =
    let full = c.self.inside.full.items in
    let last = c.self.inside.last.items in
    let count : length (joined full ++ last) ≡ 4096 = ap (λ p. length p.messages) c.self.view_is ∙ c.requires in
    let some : 0 < length full = omega (arith, count, length-append (joined full) last, joined_length full c.self.invariant.each, c.self.invariant.short) in
    ap (λ pages. joined pages ++ last) c.pop_front-page.ensures.rest
    ∙ joined_behind full last c.self.invariant.each some
    ∙ ap (λ p. drop 256 p.messages) c.self.view_is
