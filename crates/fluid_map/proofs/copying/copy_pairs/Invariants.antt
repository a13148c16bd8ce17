use Rattle.std.proofs.Common.{◌≡◌, take}
use Rattle.fluid_map.proofs.copying.copy_pairs.Given as goal

-- the copies so far are the first pairs
abbrev pub invariant-loop-key : goal.invariant-loop-key
invariant-loop-key l = l.copies.items ≡ take l.key-index l.pairs
