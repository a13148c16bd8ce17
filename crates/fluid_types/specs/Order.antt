-- The numbers of an order's messages.
use Rattle.std.specs.Prelude.{◌≡◌, ℕ, suc, List, [], ◌∷◌}
use Rattle.fluid_types.specs.declared.messages.Message.{Message}

-- the messages have the numbers from this one on, each one more than the one before
abbrev pub AreNumberedFrom : ℕ → List Message → Type 0
AreNumberedFrom n [] = Unit {0}
AreNumberedFrom n (m ∷ ms) = (m.number ≡ n) × AreNumberedFrom (suc n) ms

-- the first messages of an order: their numbers are 1, 2, 3 and so on
abbrev pub AreFirst : List Message → Type 0
AreFirst ms = AreNumberedFrom 1 ms
