use Rattle.std.proofs.Common.{subst}
use Rattle.fluid_document.specs.Puts.{Flushes}
use Rattle.fluid_deltas.specs.Flushes.{lacking}
use Rattle.fluid_document.proofs.Early.{on_ok, flushes_of}
use Rattle.fluid_document.proofs.document.Document.flush.Goals as goal

pub returns-clause-flushes : goal.returns-clause-flushes
returns-clause-flushes g c =
    subst (λ m. Flushes (lacking m.messages (g.K.Keeper.seen c.args.keeper.now).deltas) (g.K.Keeper.seen c.args.keeper.now) (g.K.Keeper.seen c.flush.new.keeper) c.flushed.result) c.self.view_is
    (flushes_of _ c.flush.result c.flushed.result _ _ c.flushed.ensures c.flush.ensures.writes c.flush.ensures.puts)

pub returns-clause-whole : goal.returns-clause-whole
returns-clause-whole g c = rw (← c.self.view_is) (on_ok c.flush.result c.flushed.result _ c.flushed.ensures c.flush.ensures.whole)
