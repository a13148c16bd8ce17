use Rattle.std.proofs.Common.{rules, ◌≡◌, ◌+◌, ◌*◌, ◌<◌, ◌++◌, length, take, drop, get_or, ap, ◌∙◌, subst, sym, arith, length-append}
use Rattle.fluid_deltas.specs.Pages.{joined}
use Rattle.fluid_deltas.proofs.Paging.{joined_length, full_page, last_page}
use Rattle.fluid_deltas.proofs.pages.Pages.page.Goals as goal

pub returns-then-number-len : goal.returns-then-number-len
returns-then-number-len c =
    let full = c.self.inside.full.items in
    let last = c.self.inside.last.items in
    let within : c.args.number < length full = search rules in
    let page : c.index.result.now ≡ get_or full c.args.number c.index.result.now = search rules in
    c.as_slice.ensures
    ∙ full_page full last c.args.number c.index.result.now c.self.invariant.each within page
    ∙ ap (λ p. take 256 (drop (256 * c.args.number) p.messages)) c.self.view_is

pub returns : goal.returns
returns c =
    let full = c.self.inside.full.items in
    let last = c.self.inside.last.items in
    let pages : c.len.result ≡ length full = search rules in
    let some : 256 * c.args.number < length (joined full ++ last) = subst (λ p. 256 * c.args.number < length p.messages) (sym c.self.view_is) c.requires in
    let number : c.args.number ≡ length full =
    omega (arith, some, c.if-number-len.false, pages, length-append (joined full) last, joined_length full c.self.invariant.each, c.self.invariant.short) in
    c.deref.ensures.value
    ∙ last_page full last c.args.number c.self.invariant.each c.self.invariant.short number
    ∙ ap (λ p. take 256 (drop (256 * c.args.number) p.messages)) c.self.view_is
