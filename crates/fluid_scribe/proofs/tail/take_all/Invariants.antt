use Rattle.std.proofs.Common.{◌≡◌, drop}
use Rattle.fluid_scribe.specs.State.{brought}
use Rattle.fluid_scribe.proofs.tail.take_all.Given as goal

-- so many messages are taken in, and the rest leads where all lead
abbrev pub invariant-loop-index : goal.invariant-loop-index
invariant-loop-index l = record {
  at : l.place.messages ≡ l.index;
  way : brought l.number l.quorum (drop l.place.messages l.behind.items) (drop l.place.changes l.minima.items)
      ≡ brought l.number l.fn.quorum (drop l.fn.place.messages l.behind.items) (drop l.fn.place.changes l.minima.items);
}
