-- A lane and a store that stand for nothing that was lent.
use Rattle.std.specs.Prelude.{[], false, None}
use Rattle.fluid_store.specs.Storing.{Storing}
use Rattle.fluid_document.specs.Entries.{nothing_entered}
use Rattle.fluid_lane.specs.Standing.{Standing}

abbrev pub unlent_lane : Standing
unlent_lane = record {
  keeping = record { content = None; records = 0; deltas = 0; checkpoints = 0; faults = 0; reads = 0 };
  entries = nothing_entered;
  messages = record { before = 0; held = []; spare = 0 };
  limits = record { entries = 0; clients = 0; checkpoints = 0; bytes = 0 };
  opened = 0;
  sides = 0;
  last = None;
  owed = false;
}

abbrev pub unlent_store : Storing
unlent_store = record { content = None; faults = 0; gets = 0 }
