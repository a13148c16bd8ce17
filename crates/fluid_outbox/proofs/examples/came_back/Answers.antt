use Rattle.std.proofs.Common.{[], refl}
use Rattle.fluid_outbox.proofs.Ran.{is_made, is_legal, is_own, is_once, is_heard, is_behind, does_stand}
use Rattle.fluid_outbox.proofs.examples.came_back.Goals as goal

pub returns : goal.returns
returns c = record { run = record { made = is_made; legal = is_legal; own = is_own; once = is_once; rest = []; heard = is_heard; behind = is_behind }; stand = does_stand }
