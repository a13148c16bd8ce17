use Rattle.std.proofs.Common.{◌≡◌, ◌==◌, drop}
use Rattle.std.specs.Prelude.{find}
use Rattle.fluid_scribe.proofs.waiting.numbered.Given as goal

-- those not yet looked at answer for all
abbrev pub invariant-loop-index : goal.invariant-loop-index
invariant-loop-index l = find (λ m. m.number == l.number) (drop l.index l.messages.items) ≡ find (λ m. m.number == l.number) l.messages.items
