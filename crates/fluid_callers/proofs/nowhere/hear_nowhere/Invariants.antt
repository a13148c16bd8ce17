use Rattle.std.proofs.Common.{◌≡◌, length}
use Rattle.fluid_callers.proofs.Apart.{HasSaidSome}
use Rattle.fluid_callers.proofs.nowhere.hear_nowhere.Given as goal

-- so many acts were answered
abbrev pub invariant-loop-act : goal.invariant-loop-act
invariant-loop-act l = record {
  len : l.act-iterator.rest.len ≡ length l.act-iterator.rest.items;
  some : HasSaidSome l.name l.fn.acts l.act-iterator.rest.items l.fn.voice l.voice l.lines;
}
