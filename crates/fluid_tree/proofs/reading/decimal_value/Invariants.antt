use Rattle.std.proofs.Common.{◌≡◌, ◌+◌, ◌-◌, ◌*◌, ◌^◌, ◌<◌, drop, fold}
use Rattle.fluid_tree.specs.Reading.{decimal_value}
use Rattle.fluid_tree.proofs.reading.decimal_value.Given as goal

abbrev pub invariant-loop-digit : goal.invariant-loop-digit
invariant-loop-digit l = record {
  small : l.value < 2 ^ 53;
  left : fold (λ n digit. n * 10 + (digit - 48)) l.value (drop l.digit-index l.digits) ≡ decimal_value l.digits;
}
