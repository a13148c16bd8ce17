-- The bytes of a record file: a row of records, each behind an open gate, and a last gate, which is closed.
use Rattle.std.specs.Prelude.{◌≡◌, ◌≢◌, ◌<◌, ◌≤◌, ⊤, ℕ, ◌+◌, ◌^◌, List, [], ◌∷◌, ◌++◌, length, take, Option, Some, None}
use Rattle.std.specs.List.{AllByRecursion}
use Rattle.std.specs.Int.{w32, to_be_bytes, from_be_bytes}

-- its length can be written in four bytes
abbrev pub IsShort : List ℕ → Type 0
IsShort bytes = length bytes < 2 ^ 32

-- what stands behind the gate of a record: four bytes of length, the most significant first, and its bytes
abbrev pub framed : List ℕ → List ℕ
framed bytes = to_be_bytes w32 (length bytes) ++ bytes

-- records, each behind an open gate
abbrev pub spelled : List (List ℕ) → List ℕ
spelled [] = []
spelled (bytes ∷ records) = (1 ∷ framed bytes) ++ spelled records

-- where the gates stand, that of the first record at this place and the last one behind the last record
abbrev pub gates_from : ℕ → List (List ℕ) → List ℕ
gates_from at [] = at ∷ []
gates_from at (bytes ∷ records) = at ∷ gates_from (at + 5 + length bytes) records

-- where the gate before record n stands
abbrev pub gate_before : ℕ → List (List ℕ) → ℕ
gate_before n records = length (spelled (take n records))

-- ---- what opening finds

-- what stands behind a gate begins with a whole record
pub record IsWhole (behind : List ℕ) : Type 0 where
  pub length_stands : 4 ≤ length behind
  pub bytes_stand : 4 + from_be_bytes w32 (take 4 behind) ≤ length behind

-- no record begins here: at the file's end, at a closed gate, and at an open gate without a whole record behind it
abbrev pub IsEnd : List ℕ → Type 0
IsEnd [] = ⊤
IsEnd (gate ∷ behind) = gate ≡ 1 → IsWhole behind → ⊥

-- opening a disk with these bytes finds these records
pub record Finds (records : List (List ℕ)) (bytes : List ℕ) : Type 0 where
  pub short : AllByRecursion IsShort records
  pub end : List ℕ
  pub splits : bytes ≡ spelled records ++ end
  pub ends : IsEnd end

-- four bytes of length don't stand here behind an open gate
abbrev pub IsHeadless : List ℕ → Type 0
IsHeadless [] = ⊤
IsHeadless (gate ∷ behind) = gate ≡ 1 → 4 ≤ length behind → ⊥

-- an open gate and this length stand here
pub record HasHead (bytes : List ℕ) (count : ℕ) : Type 0 where
  pub short : count < 2 ^ 32
  pub behind : List ℕ
  pub splits : bytes ≡ 1 ∷ (to_be_bytes w32 count ++ behind)

-- the length that stands here behind an open gate, if one does
abbrev pub IsHead : List ℕ → Option ℕ → Type 0
IsHead bytes None = IsHeadless bytes
IsHead bytes (Some count) = HasHead bytes count

-- ---- files in use

-- whole records and a closed gate, whatever stands behind it
pub record IsAtRest (records : List (List ℕ)) (bytes : List ℕ) : Type 0 where
  pub gate : ℕ
  pub behind : List ℕ
  pub splits : bytes ≡ spelled records ++ gate ∷ behind
  pub closed : gate ≢ 1
