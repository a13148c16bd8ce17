use Rattle.std.proofs.Common.{Some, string_bytes}
use Rattle.std.proofs.lemmas.Map.Text.{btree_map_updates_text}
use Rattle.fluid_tasks.proofs.held.Holdings.note_task.Goals as goal

pub returns-clause-noted : goal.returns-clause-noted
returns-clause-noted c = λ u. btree_map_updates_text (string_bytes c.args.task) c.args.self.now.tasks c.insert.new.self (Some c.args.number) c.in_ok-insert.ensures.updates u
