use Rattle.std.proofs.Common.{sym, subst, []}
use Rattle.fluid_outbox.specs.Kept.{AnOutbox, StandsFor}
use Rattle.fluid_outbox.proofs.Stands.{stands_none}
use Rattle.fluid_outbox.proofs.outbox.Outbox.new.Goals as goal

pub returns : goal.returns
returns c = subst (λ (o : AnOutbox). StandsFor o []) (sym c.empty.ensures) stands_none
