use Rattle.std.proofs.Common.{sym}
use Rattle.std.proofs.lemmas.Bool.{false≢true}
use Rattle.fluid_service.proofs.Nothing.{none_out, none_held}
use Rattle.fluid_service.proofs.laws.new_shelves_are_kept.Goals as goal

pub returns : goal.returns
returns c = record {
  whole = none_out _ c.requires;
  kept = none_held _ c.requires;
  give = λ untold keeper. absurd (false≢true (sym untold));
}
