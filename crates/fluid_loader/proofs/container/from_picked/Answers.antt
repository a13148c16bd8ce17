use Rattle.std.proofs.Common.{◌≡◌, ap, subst}
use Rattle.fluid_io.specs.Causes.{Tells}
use Rattle.fluid_loader.specs.Link.{picked}
use Rattle.fluid_loader.proofs.Inside.{on_ok_so, picked_fetched}
use Rattle.fluid_loader.proofs.container.from_picked.Goals as goal

pub returns-clause-fetched : goal.returns-clause-fetched
returns-clause-fetched g c =
    let old = g.L.Link.seen c.args.link.now in
    let mid = g.L.Link.seen c.picked.new.link in
    let new = g.L.Link.seen c.from_summary.new.link in
    let does = c.in_ok-summary.ensures.does in
    on_ok_so c.from_summary.result
    (picked_fetched c.args.pick.now c.in-Some.summary old mid new (ap (λ l. l.told) does.reads.same) (ap (λ l. l.objects) does.reads.same)
    (subst (λ o. Tells old.told (λ d. o ≡ picked c.args.pick.now d.order)) c.in-Some.is does.says.1)) c.from_summary.ensures.fetched
