use Rattle.fluid_acts.proofs.Arms.{summary_given}
use Rattle.fluid_acts.proofs.asking.summary.Goals as goal

pub returns : goal.returns
returns g c =
    summary_given c.lanes_say_their_ledgers.ensures.says c.args.asked.now c.summary_asked.result c.args.lane.now (λ messages same. c.summary_asked.ensures.order messages (rw c.acks.ensures same)) (rw c.acks.ensures at c.summary_asked.ensures.among)
