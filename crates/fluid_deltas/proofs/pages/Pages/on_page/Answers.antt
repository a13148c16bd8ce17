use Rattle.std.proofs.Common.{rules, ◌≡◌, ◌+◌, ◌-◌, ◌*◌, ◌/◌, ◌<◌, ◌≤◌, length, take, drop, refl, ap, sym, subst, ◌∙◌, arith, length-take, length-drop}
use Rattle.fluid_deltas.specs.Pages.{IsOnPage}
use Rattle.fluid_deltas.proofs.Paging.{page_part, other_page}
use Rattle.fluid_deltas.proofs.pages.Pages.on_page.Goals as goal

pub part-requires-clause-within : goal.part-requires-clause-within
part-requires-clause-within c =
    let ms = c.args.self.now.messages in
    let number = c.args.start / 256 in
    let page = drop (256 * number) ms in
    let size : length c.page.result.now ≡ length (take 256 page) = ap length c.page.ensures in
    omega (arith, size, length-take 256 page, length-drop (256 * number) ms, c.requires.last, c.requires.some, c.if-end-number.false)

pub returns-clause-known : goal.returns-clause-known
returns-clause-known c =
    let number = c.args.start / 256 in
    (λ some. record { page = number; first = omega arith; last = omega (arith, c.requires.some, c.if-end-number.false) }, λ on. refl)

pub returns-clause-messages : goal.returns-clause-messages
returns-clause-messages c =
    let ms = c.args.self.now.messages in
    let number = c.args.start / 256 in
    let first = number * 256 in
    let at : 256 * number ≡ first = omega arith in
    c.part.ensures
    ∙ ap (λ page. take (c.args.end - first - (c.args.start - first)) (drop (c.args.start - first) page)) (c.page.ensures ∙ ap (λ n. take 256 (drop n ms)) at)
    ∙ page_part ms first c.args.start c.args.end (omega arith) (omega (arith, c.requires.some)) (omega (arith, c.requires.some, c.if-end-number.false))

pub returns-then-end-number-clause-known : goal.returns-then-end-number-clause-known
returns-then-end-number-clause-known c =
    let number = c.args.start / 256 in
    (search rules, λ on. absurd (other_page number c.args.start c.args.end (omega arith) (omega (arith, c.requires.some, c.if-end-number.true)) on))
