use Rattle.std.proofs.Common.{fold, take, drop, ap, ap₂, ◌∙◌}
use Rattle.fluid_quorum.specs.After.{with_accepted}
use Rattle.fluid_quorum.specs.Places.{table_at}
use Rattle.fluid_quorum.proofs.Filled.{fold-more, drop-more}
use Rattle.fluid_quorum.proofs.accepting.accept.Goals as goal

pub loop-index-preserved : goal.loop-index-preserved
loop-index-preserved c =
    let before = c.loop-index.invariant in
    record {
      order = c.accept_first.ensures.order;
      places = c.accept_first.ensures.places;
      values =
          c.accept_first.ensures.values ∙ ap₂ (λ t ps. fold (with_accepted c.args.approval) t (take 1 ps)) before.values before.pending
          ∙ fold-more (with_accepted c.args.approval) (table_at c.args.values.now) c.loop-index._index c.args.pending.now.items;
      pending = c.accept_first.ensures.pending ∙ ap (drop 1) before.pending ∙ drop-more c.loop-index._index c.args.pending.now.items;
    }
