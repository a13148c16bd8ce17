use Rattle.std.proofs.Common.{None}
use Rattle.std.proofs.lemmas.Map.Text.{btree_map_updates_text}
use Rattle.fluid_tasks.proofs.held.Holdings.forget_task.Goals as goal

pub returns-clause-forgotten : goal.returns-clause-forgotten
returns-clause-forgotten c = λ u. btree_map_updates_text c.args.task.now c.args.self.now.tasks c.remove.new.self None c.remove.ensures.updates u
