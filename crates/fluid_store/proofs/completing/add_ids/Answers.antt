use Rattle.std.proofs.Common.{arith}
use Rattle.fluid_store.proofs.Looked.{ids_more}
use Rattle.fluid_store.proofs.completing.add_ids.Goals as goal

pub loop-entry-preserved : goal.loop-entry-preserved
loop-entry-preserved c = λ test.
    ids_more test c.args.ids.now.keys c.loop-entry.ids.keys c.insert.new.self.keys c.args.entries.now c.loop-entry.entry-index c.entry-item.result (omega arith) c.entry-item.is c.in_ok-insert.ensures.keys (c.loop-entry.invariant test)
