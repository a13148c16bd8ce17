use Rattle.fluid_session.proofs.Wholly.{concluded}
use Rattle.fluid_session.proofs.running.converse.Goals as goal

pub returns : goal.returns
returns g c = record {
  service = c.conclude.ensures.service _ c.run-end.ensures.service;
  does = concluded _ _ _ _ _ _ _ _ _ _ (rw c.new-tally.ensures at c.run-end.ensures.does) c.conclude.ensures.does;
}
