-- How the bytes of one line are collected.
use Rattle.std.proofs.Common.{◌≡◌, ℕ, ◌+◌, ◌≤◌, List, length}
use Rattle.fluid_io.specs.Chunk.{behind_held}
use Rattle.fluid_io.specs.Lines.{IsPlain}
use Rattle.fluid_io.specs.Streams.{Reading, Gives}

-- the bytes of a line so far were taken from the front of those that were ahead
pub record IsCollected (limit : ℕ) (held : List ℕ) (before : Reading) (rest : List ℕ) (now : Reading) (line : List ℕ) : Type 0 where
  pub quiet : now.faults ≡ before.faults
  pub plain : IsPlain line
  pub gives : Gives line (behind_held held before) (behind_held rest now)
  pub few : length line ≤ limit + 1
