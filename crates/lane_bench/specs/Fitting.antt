-- Which raw entries a lane takes.
use Rattle.std.specs.Prelude.{ℕ, ◌^◌, ◌<◌}
use Rattle.fluid_types.specs.Names.{entry_name}
use Rattle.fluid_types.specs.Fits.{Fits}
use Rattle.fluid_types.specs.declared.entries.Raw.{Raw}
use Rattle.fluid_types.specs.declared.entries.Raw.TheVariants.{Join, Leave, Submit, Report}

-- a join that fits under each id that a lane can give it, and any other entry that fits
abbrev pub FitsLane : Raw → Type 0
FitsLane (Join id scopes detail moment) = (n : ℕ) → n < 2 ^ 64 → Fits (Join (entry_name n) scopes detail moment)
FitsLane (Leave id moment) = Fits (Leave id moment)
FitsLane (Submit id submission moment) = Fits (Submit id submission moment)
FitsLane (Report summary found moment) = Fits (Report summary found moment)
