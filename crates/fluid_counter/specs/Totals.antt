-- What holds of the fields of a counter.
use Rattle.std.specs.Prelude.{◌≡◌, ℕ, ◌≤◌, ℤ, unsigned_abs, List, map, sum}
use Rattle.fluid_counter.specs.Counter.{sum_of, size, greatest_size}

-- the sum and the sizes of the pending amounts are kept, and no sum of any of these numbers leaves 128 bits
pub record AreTotals (acknowledged : ℤ) (pending : List ℤ) (pending_sum : ℤ) (pending_size : ℕ) : Type 0 where
  pub sum_is : pending_sum ≡ sum_of pending
  pub size_is : pending_size ≡ sum (map unsigned_abs pending)
  pub bounded : size (record { acknowledged = acknowledged; pending = pending }) ≤ greatest_size
