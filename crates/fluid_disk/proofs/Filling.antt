-- How far a buffer is filled.
use Rattle.std.proofs.Common.{◌≡◌, ℕ, ◌≤◌, List, length, take, drop}
use Rattle.std.specs.Prelude.{Some}
use Rattle.fluid_disk.specs.Disk.{Stored}
use Rattle.fluid_disk.specs.Files.{OnlyReads}

pub record IsFilled {D : Type 0} (seen : D → Stored) (may_leave : D → List ℕ → Type 0) (moment : D → ℕ) (left_since : D → ℕ → List ℕ → Type 0) (old new : D) (at : ℕ) (before into : List ℕ) (done : ℕ) : Type 0 where
  pub within : done ≤ length before
  pub reads : OnlyReads seen may_leave moment left_since old new
  pub faults : (seen old).faults ≤ (seen new).faults
  pub filled : (held : List ℕ) → (seen old).bytes ≡ Some held → take done into ≡ take done (drop at held)
