-- The numbers that a state of 64 bits gives one after another.
use Rattle.std.specs.Prelude.{ℕ, zero, suc, ◌+◌, ◌*◌, ◌^◌, ◌/◌, ◌%◌}

-- the state behind a state
unfoldable pub next_state : ℕ → ℕ
next_state x = (x * 6364136223846793005 + 1442695040888963407) % 2 ^ 64

-- the number below a bound that a state gives: its upper 31 bits, modulo the bound
unfoldable pub number_in : (x bound : ℕ) → ℕ
number_in x bound = x / 2 ^ 33 % bound

-- the state behind so many draws
abbrev pub state_after : (draws x : ℕ) → ℕ
state_after zero x = x
state_after (suc draws) x = next_state (state_after draws x)

-- the number of the n-th draw from a state, counted from 1, below a bound
abbrev pub draw : (n bound x : ℕ) → ℕ
draw n bound x = number_in (state_after n x) bound
