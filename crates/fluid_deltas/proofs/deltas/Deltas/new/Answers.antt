use Rattle.std.proofs.Common.{refl, arith}
use Rattle.fluid_deltas.proofs.Slices.{none_part, nothing_stands}
use Rattle.fluid_deltas.proofs.deltas.Deltas.new.Goals as goal

pub returns-clause-part : goal.returns-clause-part
returns-clause-part c = λ order numbered keepable. none_part _ order c.new.ensures (omega arith) numbered keepable

pub returns-clause-stands : goal.returns-clause-stands
returns-clause-stands c = λ content none. nothing_stands _ content c.new.ensures refl none
