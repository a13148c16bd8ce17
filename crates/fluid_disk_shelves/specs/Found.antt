-- What opening finds on disks, as a function of their bytes.
use Rattle.std.specs.Prelude.{ℕ, zero, suc, ◌+◌, nat_eq, nat_le, ◌&&◌, if◌then◌else◌, List, [], ◌∷◌, length, take, drop, Option, Some, None}
use Rattle.std.specs.Option.{option_map}
use Rattle.std.specs.Int.{w32, from_be_bytes}
use Rattle.fluid_log.specs.Keeping.{Keeping}
use Rattle.fluid_disk.specs.Disk.{Stored}
use Rattle.fluid_disk_keeper.specs.Keepers.{Texts, together}

-- the records that opening finds in these bytes, of which it looks at no more than so many
abbrev pub found_by : ℕ → List ℕ → Texts
found_by zero bytes = []
found_by (suc most) [] = []
found_by (suc most) (gate ∷ behind) =
    let count = from_be_bytes w32 (take 4 behind) in
    if nat_eq gate 1 && nat_le (4 + count) (length behind) then take count (drop 4 behind) ∷ found_by most (drop (4 + count) behind) else []

-- each record takes five bytes at least, so there are no more records than bytes
abbrev pub found : List ℕ → Texts
found bytes = found_by (length bytes) bytes

-- the records of a disk, where it tells its bytes
abbrev pub found_on : Stored → Option Texts
found_on disk = option_map found disk.bytes

abbrev pub count_of : Option Texts → ℕ
count_of None = 0
count_of (Some records) = length records

-- the keeper that opening will make of these disks
abbrev pub will_keep : (log deltas checkpoints : Stored) → Keeping
will_keep log deltas checkpoints = record {
  content = together (found_on log) (found_on deltas) (found_on checkpoints);
  records = count_of (found_on log);
  deltas = count_of (found_on deltas);
  checkpoints = count_of (found_on checkpoints);
  faults = 0;
  reads = 0;
}
