use Rattle.std.proofs.Common.{sym, subst}
use Rattle.std.specs.Prelude.{IsSome}
use Rattle.std.specs.FinMap.{get}
use Rattle.fluid_lanes.specs.Opened.{Opened}
use Rattle.fluid_lanes.proofs.Openings.{lent_out, lent_few}
use Rattle.fluid_lanes.proofs.lanes.Lanes.lent.Goals as goal

pub invariant_of-self-lent : goal.invariant_of-self-lent
invariant_of-self-lent g c = λ w.
    let there = subst (λ (o : Opened). IsSome (get o.lanes c.args.name.now)) (sym c.self.view_is) c.requires in
    record { out = lent_out c.self.inside.lanes.values (g.B.Shelves.seen c.self.inside.shelves) c.args.name.now w c.self.invariant.out there; few = lent_few c.self.inside.lanes.values c.args.name.now w there c.self.invariant.few; small = c.self.invariant.small }
