use Rattle.std.proofs.Common.{ap, sym, ◌∙◌}
use Rattle.fluid_codec.proofs.Ranges.{fitting-in_range}
use Rattle.fluid_core.specs.Entering as entering
use Rattle.fluid_document.proofs.Levels.{next-numbered, next-keepable}
use Rattle.fluid_document.proofs.document.Document.prepare.Goals as goal

pub prepare-requires-clause-in_range : goal.prepare-requires-clause-in_range
prepare-requires-clause-in_range c = fitting-in_range c.args.raw.now c.requires.fits

pub returns-clause-ready : goal.returns-clause-ready
returns-clause-ready c =
    let raw = c.args.raw.now in
    let few = rw (← c.self.view_is) at c.requires.few in
    record {
      committable = c.in_ok-ready.ensures.committable;
      ready = c.in_ok-ready.ensures.ready ∙ ap (λ s. entering.prepared s raw) (sym c.in_ok-ready.ensures.same);
      keepable = rw c.in_ok-ready.ensures.same (next-keepable _ _ raw c.self.invariant few c.requires.fits);
      next = rw (c.in_ok-reserve.ensures.before, c.in_ok-reserve.ensures.held, c.in_ok-ready.ensures.same) (next-numbered _ _ raw c.self.invariant);
      counts = c.counts.ensures.is;
      few = few;
      room = c.in_ok-reserve.ensures.room;
    }
