use Rattle.fluid_loader.proofs.Submitted.{beats_stay}
use Rattle.fluid_loader.proofs.container.Container.beat.Goals as goal

pub returns-clause-stays : goal.returns-clause-stays
returns-clause-stays g c =
    beats_stay c.args.self.now c.submit_noop.new.self _ (g.L.Link.seen c.args.link.now) (g.L.Link.seen c.submit_noop.new.link) c.submit_noop.result c.submit_noop.ensures.says
    c.submit_noop.ensures.leaves
