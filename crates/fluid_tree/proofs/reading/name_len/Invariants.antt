use Rattle.std.proofs.Common.{◌≡◌, ◌+◌, ◌==◌, drop}
use Rattle.std.specs.List.{position_or_len}
use Rattle.fluid_tree.proofs.reading.name_len.Given as goal

abbrev pub invariant-loop-byte : goal.invariant-loop-byte
invariant-loop-byte l = record {
  count : l.count ≡ l.byte-index;
  left : position_or_len (λ x. x == 0) l.bytes ≡ l.byte-index + position_or_len (λ x. x == 0) (drop l.byte-index l.bytes);
}
