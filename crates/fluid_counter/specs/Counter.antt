-- A counter that clients share: what increments make of it, and what a client shows.
use Rattle.std.specs.Prelude.{◌≡◌, ℕ, ◌+◌, ◌^◌, ◌≤◌, ℤ, pos, ◌+ℤ◌, unsigned_abs, List, [], ◌∷◌, map, sum, refl}
use Rattle.std.specs.Coded.{Coded, code_by, coded×, coded_ℤ, coded_list}

-- the sum of these amounts
abbrev pub sum_of : List ℤ → ℤ
sum_of [] = pos 0
sum_of (amount ∷ amounts) = amount +ℤ sum_of amounts

-- a counter is the total from before plus the sum of the amounts
abbrev pub replay : ℤ → List ℤ → ℤ
replay total amounts = total +ℤ sum_of amounts

-- ---- a client's counter

-- the total of what is in the order, and the client's own amounts that aren't yet, oldest first
pub record Shared : Type 0 where
  pub acknowledged : ℤ
  pub pending : List ℤ

-- what a client shows: the pending amounts are counted as if they were next in the order
abbrev pub shown : Shared → ℤ
shown shared = replay shared.acknowledged shared.pending

-- the client's counter stands for these amounts where what they make of a counter at this total is acknowledged
abbrev pub StandsFor : ℤ → List ℤ → Shared → Type 0
StandsFor total amounts shared = shared.acknowledged ≡ replay total amounts

-- ---- how much a counter can hold

-- the sizes of the total and of the pending amounts add up to this
abbrev pub size : Shared → ℕ
size shared = unsigned_abs shared.acknowledged + sum (map unsigned_abs shared.pending)

-- the greatest size with which no sum leaves 128 bits
abbrev pub greatest_size : ℕ
greatest_size = 2 ^ 126

-- with the size of this amount they add up to no more than that
abbrev pub HasRoom : Shared → ℤ → Type 0
HasRoom shared amount = size shared + unsigned_abs amount ≤ greatest_size

-- a counter as the pair of its parts
abbrev pub shared_code : Coded Shared
shared_code =
    code_by (ℤ × List ℤ) (coded× coded_ℤ (coded_list coded_ℤ)) (λ shared. (shared.acknowledged, shared.pending))
    (λ parts. record { acknowledged = parts.0; pending = parts.1 }) (λ _. refl)
