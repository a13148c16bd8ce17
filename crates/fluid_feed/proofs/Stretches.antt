-- Parts of a tail.
use Rattle.std.proofs.Common.{◌≡◌, ℕ, ◌+◌, ◌-◌, ◌≤◌, length, drop, arith}
use Rattle.std.proofs.lemmas.List.{length-drop, length-take-le}
use Rattle.fluid_feed.specs.Tails.{ATail, stretch}

-- it has as many messages as numbers
pub stretch-length : (t : ATail) (from to : ℕ) → t.from ≤ from → from ≤ to → to ≤ t.from + length t.messages → from + length (stretch t from to) ≡ to
stretch-length t from to first ordered last =
    let long : length (drop (from - t.from) t.messages) ≡ length t.messages - (from - t.from) = length-drop (from - t.from) t.messages in
    let short : to - from ≤ length (drop (from - t.from) t.messages) = omega arith in
    let count = length-take-le (to - from) (drop (from - t.from) t.messages) short in
    omega arith
