-- The shelves of a desk, before `serve` and behind it.
use Rattle.std.specs.Prelude.{◌≡◌, is_some}
use Rattle.fluid_log.specs.Keeping.{Keeping}
use Rattle.fluid_log.specs.Shelving.{Shelving, AreWhole}
use Rattle.fluid_service.specs.Shelved.{AreKept, GiveKept}

-- no keeper is out, and where the shelves tell their keepers, those are kept
pub record AreReady {K : Type 0} (seen : K → Keeping) (shelves : Shelving) : Type 0 where
  pub whole : AreWhole shelves
  pub kept : AreKept shelves
  pub give : GiveKept seen shelves

-- whether they tell their keepers stays, and those that are in are kept
pub record ShelvesComeBack (old new : Shelving) : Type 0 where
  pub told : is_some new.held ≡ is_some old.held
  pub kept : AreKept new
