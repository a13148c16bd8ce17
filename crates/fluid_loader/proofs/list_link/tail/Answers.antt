use Rattle.std.proofs.Common.{◌≡◌, ◌-◌, ◌<◌, ◌≤◌, length, drop, ap, ◌∙◌, arith}
use Rattle.fluid_loader.proofs.Acks.{all_behind}
use Rattle.fluid_loader.proofs.Tails.{tail_copied}
use Rattle.fluid_loader.proofs.list_link.tail.Goals as goal

pub returns : goal.returns
returns c =
    let order = c.args.order.now in
    let messages = c.as_slice-messages in
    let start = c.start_of-start in
    let long : length messages.result.now ≡ length order = ap length messages.ensures.slice in
    let high : start.result < c.args.from - 1 → length order ≤ start.result = λ lt. omega (arith, long, start.ensures.end lt) in
    let cut = all_behind start.result messages.result.now ∙ ap (drop start.result) messages.ensures.slice in
    tail_copied (λ v. v.items) c.copied.result c.args.from start.result order _ c.requires.above c.requires.fits messages.ensures.in_order messages.ensures.fits start.ensures.before high cut c.copied.ensures
