-- Keepers and shelves of which the contents aren't told.
use Rattle.std.specs.Prelude.{None}
use Rattle.fluid_log.specs.Keeping.{Keeping}
use Rattle.fluid_log.specs.Shelving.{Shelving}

-- the same numbers
abbrev pub quiet : Keeping → Keeping
quiet k = record k { content = None }

-- the same keepers are out
abbrev pub quiet_shelves : Shelving → Shelving
quiet_shelves s = record s { held = None }
