use Rattle.std.proofs.Common.{◌≡◌, length}
use Rattle.std.specs.Prelude.{All}
use Rattle.fluid_voice.specs.Fitting.{IsFitting}
use Rattle.tests_of_services.proofs.desks.Desk.told.Given as goal

-- what is left fits too
abbrev pub invariant-loop-act : goal.invariant-loop-act
invariant-loop-act g l = record {
  fit : All IsFitting l.act-iterator.rest.items;
  len : l.act-iterator.rest.len ≡ length l.act-iterator.rest.items;
}
