use Rattle.std.proofs.Common.{◌≡◌, take}
use Rattle.fluid_map.proofs.copying.object.Given as goal

-- the members so far are the first entries
abbrev pub invariant-loop-key : goal.invariant-loop-key
invariant-loop-key l = l.pairs ≡ take l.key-index l.slice
