-- A pass of a door and a key of a service, as a connection knows them.
use Rattle.std.specs.Prelude.{ℕ, false, List, [], None, Some}
use Rattle.fluid_doors.specs.Passing.{APass}
use Rattle.fluid_service.specs.Keys.{AKey}
use Rattle.fluid_talk.specs.Talking.{Knowing, Keyed}

-- before a document is reached
abbrev pub no_pass : Knowing
no_pass = record {
  name = None;
  limits = record { entries = 0; clients = 0; checkpoints = 0; bytes = 0 };
  told = false;
  number = 0;
  seen = [];
  mine = [];
}

-- the pass of the document of this name
abbrev pub knowing : List ℕ → APass → Knowing
knowing name pass = record {
  name = Some name;
  limits = pass.turn.fixed.limits;
  told = pass.turn.fixed.told;
  number = pass.number;
  seen = pass.seen;
  mine = pass.mine;
}

abbrev pub keyed : AKey → Keyed
keyed key = record { limits = key.turn.fixed.limits; told = key.turn.fixed.told; number = key.number; seen = key.seen; mine = key.mine }
