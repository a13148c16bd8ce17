-- Which raw entries a log takes.
use Rattle.std.specs.Prelude.{◌≡◌, ℕ, ◌≤◌, Bool, true, nat_le, length, Ok}
use Rattle.fluid_types.specs.declared.entries.Raw.{Raw}
use Rattle.fluid_types.specs.declared.entries.Raw.TheVariants.{Join, Leave, Submit, Report}
use Rattle.fluid_types.specs.Forms.{largest}
use Rattle.fluid_types.specs.Printed.{raw_printed}
use Rattle.fluid_types.specs.Records.{raw_spelled}

-- the most bytes of a record in a log: 4 MiB
abbrev pub longest_record : ℕ
longest_record = 4194304

-- a raw entry fits where its printed record isn't too long and is read back as itself
pub record Fits (raw : Raw) : Type 0 where
  pub short : length (raw_printed raw) ≤ longest_record
  pub read_back : raw_spelled (raw_printed raw) ≡ Ok raw

-- the client number of a submission is one that a record can have, at most 2^53 - 1; no other entry has such a number
abbrev pub is_in_range : Raw → Bool
is_in_range (Join id scopes detail moment) = true
is_in_range (Leave id moment) = true
is_in_range (Submit id submission moment) = nat_le submission.client_number largest
is_in_range (Report summary found moment) = true

abbrev pub IsInRange : Raw → Type 0
IsInRange raw = is_in_range raw ≡ true
