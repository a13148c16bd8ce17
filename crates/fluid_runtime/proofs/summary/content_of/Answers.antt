use Rattle.std.proofs.Common.{sym, subst}
use Rattle.std.specs.Result.{OnOk}
use Rattle.fluid_runtime.specs.AppTree.{IsReadAsItself}
use Rattle.fluid_runtime.specs.Slots.{channel_of_object}
use Rattle.fluid_runtime.proofs.Bounded.{map_read, counter_read}
use Rattle.fluid_runtime.proofs.summary.content_of.Goals as goal

pub returns-in-Map-clause-reads_back : goal.returns-in-Map-clause-reads_back
returns-in-Map-clause-reads_back c =
    subst (λ object. OnOk c.to_blob.result (IsReadAsItself (channel_of_object object))) (sym c.in-Map.is)
    (map_read c.to_blob.result c.in-Map.map.acknowledged c.to_blob.ensures.content c.to_blob.ensures.reads_back)

pub returns-in-Counter-clause-reads_back : goal.returns-in-Counter-clause-reads_back
returns-in-Counter-clause-reads_back c =
    subst (λ object. OnOk c.to_blob-in-Counter.result (IsReadAsItself (channel_of_object object))) (sym c.in-Counter.is)
    (counter_read c.to_blob-in-Counter.result c.in-Counter.counter.acknowledged c.to_blob-in-Counter.ensures.content c.to_blob-in-Counter.ensures.reads_back)
