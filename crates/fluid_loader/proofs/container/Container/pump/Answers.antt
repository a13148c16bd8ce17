use Rattle.std.proofs.Common.{ap}
use Rattle.fluid_loader.proofs.Goes.{taken_all}
use Rattle.fluid_loader.proofs.Stays.{pump_stays}
use Rattle.fluid_loader.proofs.container.Container.pump.Goals as goal

pub returns-clause-stays : goal.returns-clause-stays
returns-clause-stays g c =
    pump_stays c.containers_stay_based.ensures c.args.self.now c.catch_up.new.self (g.L.Link.seen c.args.link.now) (g.L.Link.seen c.catch_up.new.link) c.catch_up.result
    (ap (λ l. l.told) c.catch_up.ensures.reads.same) c.id.ensures.document c.catch_up.ensures.does

pub returns-clause-takes_all : goal.returns-clause-takes_all
returns-clause-takes_all g c =
    taken_all c.quorum_goes_on.ensures c.args.self.now c.catch_up.new.self (g.L.Link.seen c.args.link.now) (g.L.Link.seen c.catch_up.new.link) c.catch_up.result c.id.ensures.document c.catch_up.ensures.does
