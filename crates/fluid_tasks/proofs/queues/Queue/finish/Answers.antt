use Rattle.std.proofs.Common.{◌∙◌, ◌+◌, None, cond, ap, sym, nat_cmp}
use Rattle.std.specs.Prelude.{is_some}
use Rattle.std.specs.BTreeMap.{get, btree_map_len}
use Rattle.fluid_tasks.proofs.Candidates.{eq-cmp}
use Rattle.fluid_tasks.proofs.queues.Queue.finish.Goals as goal

pub returns : goal.returns
returns c = record {
  line = c.forget.ensures;
  unheld = record {
    held = λ n. c.remove.ensures.updates.0 n ∙ ap (λ b. cond b None (get nat_cmp c.args.self.now.held n)) (eq-cmp c.args.item n);
    count = ap (λ o. btree_map_len c.remove.new.self + cond (is_some o) 1 0) (sym c.remove.ensures.value) ∙ c.remove.ensures.len;
    ordered = c.remove.ensures.ordered;
  };
}
