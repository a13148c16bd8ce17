-- Noop messages that bring a quorum to a later number.
use Rattle.std.specs.Prelude.{ℕ, zero, suc, ◌+◌, ◌-◌, nat_lt, nat_le, negsuc, ◌&&◌, if◌then◌else◌, List, [], ◌∷◌, ◌++◌, fold, None}
use Rattle.fluid_json.specs.Tree.{null}
use Rattle.fluid_types.specs.declared.messages.Kind.TheVariants.{Noop}
use Rattle.fluid_types.specs.declared.messages.Message.{Message}
use Rattle.fluid_types.specs.Quorum.{Quorum}
use Rattle.fluid_quorum.specs.After.{after}

-- a noop that says nothing besides
abbrev pub noop : (number minimum : ℕ) → Message
noop number minimum = record {
  client = None;
  client_number = negsuc 0;
  reference = negsuc 0;
  number = number;
  minimum = minimum;
  kind = Noop;
  contents = null;
  system = None;
  metadata = None;
  moment = 0;
}

-- so many of them, from this number on, all with the same minimum
abbrev pub noops : (count first minimum : ℕ) → List Message
noops zero first minimum = []
noops (suc count) first minimum = noop first minimum ∷ noops count (suc first) minimum

-- those that bring a quorum to a number: all have its minimum but the last, which has this one. There are none where the
-- number isn't above that of the quorum, or the minimum is below its own
unfoldable pub noops_to : Quorum → (number minimum : ℕ) → List Message
noops_to q number minimum =
    if nat_lt q.number number && nat_le q.minimum minimum
    then noops (number - q.number - 1) (q.number + 1) q.minimum ++ noop number minimum ∷ []
    else []

-- the quorum behind them
unfoldable pub advanced : Quorum → (number minimum : ℕ) → Quorum
advanced q number minimum = fold after q (noops_to q number minimum)
