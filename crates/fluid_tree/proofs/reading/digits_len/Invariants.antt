use Rattle.std.proofs.Common.{◌≡◌, ◌+◌, drop}
use Rattle.fluid_tree.specs.Reading.{digits_len}
use Rattle.fluid_tree.proofs.reading.digits_len.Given as goal

abbrev pub invariant-loop-byte : goal.invariant-loop-byte
invariant-loop-byte l = record {
  count : l.count ≡ l.byte-index;
  left : digits_len l.bytes ≡ l.byte-index + digits_len (drop l.byte-index l.bytes);
}
