-- What never changes of a document, and what is known of a door.
use Rattle.std.specs.Prelude.{ℕ, List, is_some}
use Rattle.fluid_turn.specs.Seats.{Turning}
use Rattle.fluid_lane.specs.declared.steps.Step.{Step}
use Rattle.fluid_lane.specs.Standing.{Standing}
use Rattle.fluid_doors.specs.declared.bench.Terms.{Terms}

-- that of a lane
abbrev pub terms_of : Standing → Terms
terms_of s = record { limits = s.limits; opened = s.opened; told = is_some s.keeping.content }

-- a door: the name of its document, and the turn of its lane, with the list of steps with which that began
pub record Doorway : Type 0 where
  pub name : List ℕ
  pub turn : Turning Step Terms
