use Rattle.fluid_transcript.proofs.TasksComputed.{items_so, volunteers_so}
use Rattle.fluid_transcript.proofs.examples.queues_and_tasks.Goals as goal

pub returns : goal.returns
returns c = record { items = items_so c.two_items.ensures; volunteers = volunteers_so }
