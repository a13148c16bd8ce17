-- What a source has left, what was written to a sink, and what one call does to them.
use Rattle.std.specs.Prelude.{◌≡◌, ℕ, ◌<◌, ◌≤◌, List, [], ◌++◌, length, take, Option, Result, Ok, Err}
use Rattle.std.specs.Option.{option_map}
use Rattle.fluid_io.specs.declared.faults.Failed.{Failed}
use Rattle.fluid_io.specs.Causes.{Tells}

-- a source: the bytes that it has left, where it tells them, and its count of faults
pub record Reading : Type 0 where
  pub left : Option (List ℕ)
  pub faults : ℕ

-- a sink: the bytes that were written to it, where it tells them, and its count of faults
pub record Writing : Type 0 where
  pub written : Option (List ℕ)
  pub faults : ℕ

-- the old bytes are these bytes and then the new ones
abbrev pub Gives : List ℕ → Option (List ℕ) → Option (List ℕ) → Type 0
Gives bytes old new = old ≡ option_map (λ rest. bytes ++ rest) new

-- the new bytes are the old ones and then these bytes
abbrev pub Appends : List ℕ → Option (List ℕ) → Option (List ℕ) → Type 0
Appends bytes old new = new ≡ option_map (λ before. before ++ bytes) old

-- a read that put `count` bytes to the front of the buffer: the source had them at its front,
-- and it gives none to a buffer that has room only at its end
pub record ReadsBytes (old new : Reading) (buffer : List ℕ) (count : ℕ) : Type 0 where
  pub within : count ≤ length buffer
  pub gives : Gives (take count buffer) old.left new.left
  pub ended : count ≡ 0 → 0 < length buffer → Tells old.left (λ left. left ≡ [])

-- what a read did, by its answer
abbrev pub ReadDoes : Reading → Reading → List ℕ → Result ℕ Failed → Type 0
ReadDoes old new buffer (Ok count) = ReadsBytes old new buffer count
ReadDoes old new buffer (Err fault) = new.left ≡ old.left

-- a write that took `count` bytes from the front of a piece, and some of a piece that has any
pub record WritesBytes (old new : Writing) (piece : List ℕ) (count : ℕ) : Type 0 where
  pub within : count ≤ length piece
  pub some : 0 < length piece → 0 < count
  pub appends : Appends (take count piece) old.written new.written

-- what a write did, by its answer
abbrev pub WriteDoes : Writing → Writing → List ℕ → Result ℕ Failed → Type 0
WriteDoes old new piece (Ok count) = WritesBytes old new piece count
WriteDoes old new piece (Err fault) = new.written ≡ old.written

-- a part from the front of the bytes was appended, maybe all or nothing
pub record AppendsPrefix (bytes : List ℕ) (old new : Option (List ℕ)) : Type 0 where
  pub prefix : List ℕ
  pub behind : List ℕ
  pub splits : bytes ≡ prefix ++ behind
  pub appends : Appends prefix old new

-- a write of all the bytes: at Ok they were appended, else a part from their front
abbrev pub WriteAllDoes : Writing → Writing → List ℕ → Result (Unit {0}) Failed → Type 0
WriteAllDoes old new bytes (Ok done) = Appends bytes old.written new.written
WriteAllDoes old new bytes (Err fault) = AppendsPrefix bytes old.written new.written
