use Rattle.std.proofs.Common.{rules, ◌≡◌, ◌+◌, ◌*◌, ◌/◌, ◌%◌, ◌<◌, length, take, drop, get_or, ap, ◌∙◌, subst, sym, arith, length-take, length-drop}
use Rattle.fluid_deltas.proofs.Paging.{page_at}
use Rattle.fluid_deltas.proofs.pages.Pages.at.Goals as goal

pub bounds-page-place : goal.bounds-page-place
bounds-page-place c =
    let ms = c.args.self.now.messages in
    let number = c.args.place / 256 in
    let page = drop (256 * number) ms in
    let size : length c.page-page.result.now ≡ length (take 256 page) = ap length c.page-page.ensures in
    let rest : c.args.place % 256 < length (take 256 page) = omega (arith, c.requires, length-take 256 page, length-drop (256 * number) ms) in
    subst (λ n. c.args.place % 256 < n) (sym size) rest

pub returns : goal.returns
returns c =
    let ms = c.args.self.now.messages in
    let number = c.args.place / 256 in
    let rest = c.args.place % 256 in
    let m = c.index-page-place.result in
    let is : m ≡ get_or (take 256 (drop (256 * number) ms)) rest m = c.index-page-place.is ∙ ap (λ page. get_or page rest m) c.page-page.ensures in
    page_at ms number rest c.args.place m (omega arith) (omega arith) is
