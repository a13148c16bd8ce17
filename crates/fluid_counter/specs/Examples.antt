-- Worked examples: what a few increments make of a counter, and when it is full.
use Rattle.std.specs.Prelude.{◌≡◌, ◌^◌, ◌-◌, pos, negsuc, [], ◌∷◌}
use Rattle.fluid_counter.specs.Counter.{replay, shown, HasRoom}

-- `negsuc n` is -1 - n, so `negsuc 2` is -3
abbrev pub ThreeIncrements : Type 0
ThreeIncrements = replay (pos 0) (pos 5 ∷ negsuc 2 ∷ pos 7 ∷ []) ≡ pos 9

-- two pending amounts are shown over a total of -40
abbrev pub PendingAmounts : Type 0
PendingAmounts = shown (record { acknowledged = negsuc 39; pending = pos 2 ∷ pos 300 ∷ [] }) ≡ pos 262

-- sizes may add up to 2^126, and not to 1 more
abbrev pub RoomAtTheEnd : Type 0
RoomAtTheEnd =
    HasRoom (record { acknowledged = pos (2 ^ 126 - 2); pending = negsuc 0 ∷ [] }) (pos 1)
    × (HasRoom (record { acknowledged = pos (2 ^ 126 - 1); pending = negsuc 0 ∷ [] }) (pos 1) → ⊥)
