use Rattle.std.proofs.Common.{◌∙◌, Some, cond, ap, nat_cmp}
use Rattle.std.specs.BTreeMap.{get}
use Rattle.std.specs.Prelude.{is_some}
use Rattle.fluid_tasks.proofs.Candidates.{eq-cmp}
use Rattle.fluid_tasks.proofs.Names.{one_more}
use Rattle.fluid_tasks.proofs.queues.Queue.give.Goals as goal

pub returns-clause-given : goal.returns-clause-given
returns-clause-given c = record {
  line = c.give.ensures;
  held = λ n. c.in_ok-insert.ensures.updates.0 n ∙ ap (λ b. cond b (Some c.args.client) (get nat_cmp c.args.self.now.held n)) (eq-cmp c.args.item n);
  count = one_more (is_some c.in_ok-insert.field-0) _ _ c.in_ok-insert.ensures.len;
  ordered = c.insert.ensures.ordered;
}
