-- A reader of lines as contracts see it.
use Rattle.std.specs.Prelude.{ℕ, Bool, List}

pub record Reader : Type 0 where
  -- the bytes that it read ahead
  pub held : List ℕ
  -- how many lines it gave
  pub count : ℕ
  -- whether it answered a fault
  pub failed : Bool
  -- the most bytes that a line may have
  pub limit : ℕ
