-- The numbers of an order that a reader gets next.
use Rattle.std.specs.Prelude.{ℕ, ◌+◌, ◌-◌, List, take}
use Rattle.std.specs.List.{range_with_len}
use Rattle.std.specs.declared.ops.Range.{Range}

-- the numbers from one up to another one, both included; none where the first is above the last
abbrev pub numbers_up_to : (first last : ℕ) → List ℕ
numbers_up_to first last = range_with_len first (last + 1 - first)

-- the next stretch of an order that has `len` messages: at most `most` of the numbers from `next` on
abbrev pub stretch : (next len most : ℕ) → List ℕ
stretch next len most = take most (numbers_up_to next len)

-- the numbers of a half-open range
abbrev pub numbers_of : Range ℕ → List ℕ
numbers_of range = range_with_len range.start (range.end - range.start)
