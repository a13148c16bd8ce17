use Rattle.fluid_loader.proofs.Submitted.{edit_stays}
use Rattle.fluid_loader.proofs.container.Container.edit.Goals as goal

pub returns-clause-stays : goal.returns-clause-stays
returns-clause-stays g c =
    edit_stays c.args.self.now c.lay_over.new.self c.args.edit (g.L.Link.seen c.args.link.now) (g.L.Link.seen c.lay_over.new.link) c.lay_over.result c.lay_over.ensures.does
