use Rattle.std.proofs.Common.{◌≡◌, drop}
use Rattle.fluid_scribe.specs.State.{risen}
use Rattle.fluid_scribe.proofs.tail.rise.Given as goal

-- so many changes are taken in, and the rest leads where all lead
abbrev pub invariant-loop-index : goal.invariant-loop-index
invariant-loop-index l = record {
  at : l.changes ≡ l.index;
  way : risen l.number l.quorum (drop l.changes l.minima.items) ≡ risen l.number l.fn.quorum (drop l.fn.changes l.minima.items);
}
