use Rattle.std.proofs.Common.{◌≡◌, ◌≤◌, drop}
use Rattle.fluid_json.specs.Spelled.{reaches}
use Rattle.fluid_json.specs.declared.nesting.Place.TheVariants.{Outside}
use Rattle.fluid_steps.specs.Stands.{place}
use Rattle.fluid_steps.proofs.nesting.reaches.Given as goal

-- what is left, from here on, answers for all
abbrev pub invariant-loop-byte : goal.invariant-loop-byte
invariant-loop-byte l = record {
  left : reaches l.top (place l.stand) l.depth (drop l.byte-index l.byte-items) ≡ reaches l.top Outside 0 l.text;
  few : l.depth ≤ l.byte-index;
}
