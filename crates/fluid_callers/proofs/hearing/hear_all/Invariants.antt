use Rattle.std.proofs.Common.{◌≡◌, length}
use Rattle.fluid_callers.proofs.Acts.{HasHeardSome}
use Rattle.fluid_callers.proofs.hearing.hear_all.Given as goal

-- so many acts were heard
abbrev pub invariant-loop-act : goal.invariant-loop-act
invariant-loop-act g l = record {
  len : l.act-iterator.rest.len ≡ length l.act-iterator.rest.items;
  some : HasHeardSome l.name l.fn.acts l.act-iterator.rest.items l.fn.lane l.lane (g.O.Objects.seen l.fn.objects) (g.O.Objects.seen l.objects) l.fn.voice l.voice l.lines;
}
