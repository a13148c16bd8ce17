use Rattle.fluid_tasks.proofs.Law.{one_holder_at_a_time}
use Rattle.fluid_tasks.proofs.laws.one_holder_at_a_time.Goals as goal

pub returns : goal.returns
returns c = one_holder_at_a_time
