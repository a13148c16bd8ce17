use Rattle.std.proofs.Common.{sym, ◌∙◌}
use Rattle.fluid_doors.proofs.Answering.{no_sides}
use Rattle.fluid_doors.proofs.Tails.{opens}
use Rattle.fluid_doors.proofs.door.Door.open.Goals as goal

pub new-requires : goal.new-requires
new-requires g c = (c.requires.0, opens _ _ _ c.new-tail.ensures c.requires.1)

pub returns-in-Ok-clause-fresh : goal.returns-in-Ok-clause-fresh
returns-in-Ok-clause-fresh g c = λ none. no_sides _ (sym c.in-Ok.ensures.turn.0.lane.last ∙ none)
