use Rattle.std.proofs.Common.{◌≡◌, ◌+◌, ◌≤◌, ◌==◌, length, drop}
use Rattle.std.specs.List.{common_prefix_len}
use Rattle.fluid_tree.proofs.reading.common.Given as goal

-- the bytes so far are those of the word, and the rest is looked at next
abbrev pub invariant-loop-expected : goal.invariant-loop-expected
invariant-loop-expected l = record {
  count : l.count ≡ l.expected-index;
  within : l.count ≤ length l.bytes;
  left : common_prefix_len (λ x y. x == y) l.word l.bytes ≡ l.count + common_prefix_len (λ x y. x == y) (drop l.count l.word) (drop l.count l.bytes);
}
