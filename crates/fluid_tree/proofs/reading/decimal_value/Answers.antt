use Rattle.std.proofs.Common.{refl, arith, lt-ltb, ◌^◌, ◌-◌}
use Rattle.fluid_tree.specs.Reading.{decimal_value}
use Rattle.fluid_tree.proofs.Grows.{too_great}
use Rattle.fluid_tree.proofs.reading.decimal_value.Goals as goal

pub returns-then-value-gt-LARGEST-clause-value : goal.returns-then-value-gt-LARGEST-clause-value
returns-then-value-gt-LARGEST-clause-value c =
    rw (lt-ltb (2 ^ 53 - 1) (decimal_value c.args.digits.now)
    (too_great c.args.digits.now c.loop-digit.digit-index c.loop-digit.value _ _ (omega arith) c.loop-digit.invariant.left (omega (arith, c.saturating_sub.ensures, c.from.ensures)) c.if-value-gt-LARGEST.true)) refl
