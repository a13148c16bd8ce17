use Rattle.std.proofs.Common.{◌≡◌, ◌+◌, suc, ◌∙◌, arith}
use Rattle.std.specs.FinMap.{entries, len-entries}
use Rattle.std.proofs.lemmas.List.{take_all}
use Rattle.fluid_checkpoint.proofs.Entered.{take_more}
use Rattle.fluid_checkpoint.proofs.heard.rows_of.Goals as goal

pub loop-place-preserved : goal.loop-place-preserved
loop-place-preserved c =
    let more = take_more (entries c.args.clients.now.rows) c.loop-place.place _ c.client_at.ensures in
    let next : c.loop-place.place + 1 ≡ suc c.loop-place.place = omega arith in
    c.in_ok-push.ensures.items ∙ rw (next, c.in_ok-copy.ensures, c.loop-place.invariant) more

pub returns : goal.returns
returns c =
    c.loop-place.invariant
    ∙ take_all c.loop-place.place (entries c.args.clients.now.rows) (omega (arith, c.loop-place-test.false, c.count-place-end.ensures, len-entries c.args.clients.now.rows))
