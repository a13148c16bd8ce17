-- What a disk tells, what its calls do to the bytes that a read gives, and what a crash may make of them between two syncs.
use Rattle.std.specs.Prelude.{◌≡◌, ◌<◌, ◌≤◌, ◌⊎◌, ⊤, ℕ, ◌+◌, ◌-◌, min, max, List, ◌++◌, length, take, drop, Option, is_some, Result, Ok, Err}
use Rattle.std.specs.Option.{option_map}
use Rattle.fluid_io.specs.Causes.{Tells}
use Rattle.fluid_io.specs.declared.faults.Failed.{Failed as Fault}

-- a disk: the bytes that a read gives, where it tells them, and two numbers that are known of all disks
pub record Stored : Type 0 where
  pub bytes : Option (List ℕ)
  -- how many bytes it has
  pub size : ℕ
  -- how many faults were counted
  pub faults : ℕ

abbrev pub IsSized : Stored → Type 0
IsSized disk = Tells disk.bytes (λ bytes. disk.size ≡ length bytes)

-- ---- what a crash may leave

-- after a write of n bytes at this place: any bytes in the range and past the old end, the same elsewhere
pub record Torn (at n : ℕ) (old new : List ℕ) : Type 0 where
  pub before : take at new ≡ take at old
  pub after : drop (at + n) new ≡ drop (at + n) old
  pub no_shorter : length old ≤ length new
  pub no_longer : length new ≤ max (length old) (at + n)

-- a cut has happened or it hasn't
abbrev pub Cut : ℕ → List ℕ → List ℕ → Type 0
Cut to old new = (new ≡ old) ⊎ (new ≡ take to old)

-- each new outcome of a crash is an old outcome after a step
abbrev pub Follows : (List ℕ → List ℕ → Type 0) → (List ℕ → Type 0) → (List ℕ → Type 0) → Type 0
Follows step old new = (image : List ℕ) → new image → (before : List ℕ) × old before × step before image

-- a crash leaves these bytes and nothing else
abbrev pub Only : List ℕ → (List ℕ → Type 0) → Type 0
Only bytes may_leave = (image : List ℕ) → may_leave image → image ≡ bytes

-- a crash leaves what a read gives
abbrev pub IsDurable : Stored → (List ℕ → Type 0) → Type 0
IsDurable disk may_leave = Tells disk.bytes (λ bytes. Only bytes may_leave)

-- Time goes on: a crash since t might have left what it might have left before, or what it may leave now.
pub record Elapses (before now : ℕ) (past since : ℕ → List ℕ → Type 0) (may_leave : List ℕ → Type 0) : Type 0 where
  pub later : before ≤ now
  pub nothing_else : (t : ℕ) (image : List ℕ) → t ≤ before → since t image → past t image ⊎ may_leave image
  pub keeps : (t : ℕ) (image : List ℕ) → t ≤ before → past t image → since t image

-- A crash at any moment since old leaves an image that has P.
pub record LeavesOnly {D : Type 0} (moment : D → ℕ) (left_since : D → ℕ → List ℕ → Type 0) (old new : D) (P : List ℕ → Type 0) : Type 0 where
  pub later : moment old ≤ moment new
  pub each : (image : List ℕ) → left_since new (moment old) image → P image
  -- for a run that began earlier
  pub before : (t : ℕ) (image : List ℕ) → t ≤ moment old → left_since new t image → left_since old t image ⊎ P image

-- ---- the calls

-- the same bytes, where they are told, and as many
pub record StaysAsRead (old new : Stored) : Type 0 where
  pub bytes : new.bytes ≡ old.bytes
  pub size : new.size ≡ old.size

-- the first n bytes of a buffer were read from this place on
pub record Reads (at : ℕ) (disk : Stored) (before after : List ℕ) (n : ℕ) : Type 0 where
  pub within : n ≤ min (length before) (disk.size - at)
  pub some : at < disk.size → 0 < length before → 0 < n
  pub given : Tells disk.bytes (λ bytes. after ≡ take n (drop at bytes) ++ drop n before)

-- a read, by its answer
abbrev pub ReadDoes : ℕ → Stored → List ℕ → List ℕ → Result ℕ Fault → Type 0
ReadDoes at disk before after (Ok n) = Reads at disk before after n
ReadDoes at disk before after (Err fault) = ⊤

-- these bytes in the place of what stood there
abbrev pub overwritten : ℕ → List ℕ → List ℕ → List ℕ
overwritten at bytes old = take at old ++ bytes ++ drop (at + length bytes) old

-- a write was done
pub record Overwrites (at : ℕ) (written : List ℕ) (old new : Stored) : Type 0 where
  pub bytes : new.bytes ≡ option_map (overwritten at written) old.bytes
  pub size : new.size ≡ max old.size (at + length written)

-- A call failed. What a read gives then is one of the images that a crash may leave.
pub record StaysAtLeast (size : ℕ) (old new : Stored) : Type 0 where
  pub told : is_some new.bytes ≡ is_some old.bytes
  pub no_shorter : size ≤ new.size

-- a write, by its answer
abbrev pub WriteDoes : ℕ → List ℕ → Stored → Stored → Result (Unit {0}) Fault → Type 0
WriteDoes at bytes old new (Ok done) = Overwrites at bytes old new
WriteDoes at bytes old new (Err fault) = StaysAtLeast old.size old new

-- a cut was done
pub record CutsOff (to : ℕ) (old new : Stored) : Type 0 where
  pub bytes : new.bytes ≡ option_map (take to) old.bytes
  pub size : new.size ≡ min to old.size

-- a cut, by its answer
abbrev pub CutDoes : ℕ → Stored → Stored → Result (Unit {0}) Fault → Type 0
CutDoes to old new (Ok done) = CutsOff to old new
CutDoes to old new (Err fault) = StaysAtLeast (min to old.size) old new

-- a write that is synced behind it says how long the disk is then
abbrev pub PutDoes : ℕ → List ℕ → Stored → Stored → Result ℕ Fault → Type 0
PutDoes at bytes old new (Ok size) = Overwrites at bytes old new
PutDoes at bytes old new (Err fault) = StaysAtLeast old.size old new
