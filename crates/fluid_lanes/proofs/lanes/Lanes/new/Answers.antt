use Rattle.fluid_lanes.proofs.Openings.{nothing_out, none_few}
use Rattle.fluid_lanes.proofs.lanes.Lanes.new.Goals as goal

pub invariant_of-result : goal.invariant_of-result
invariant_of-result g c = record { out = nothing_out c.new.result.values (g.B.Shelves.seen c.args.shelves) c.new.ensures c.requires.whole; few = none_few c.new.result.values c.new.ensures; small = c.requires.small }
