use Rattle.fluid_map.proofs.Replays.{shown_acknowledged}
use Rattle.fluid_map.proofs.shared.SharedMap.acknowledge.Goals as goal

pub returns-clause-shown : goal.returns-clause-shown
returns-clause-shown c = λ key. rw (c.take_in.ensures.values, ← c.self.view_is, c.pop-op.ensures) (shown_acknowledged c.self.inside.acknowledged.values c.pop-op.result c.pop-op.new.self key)
