-- The scribe of a ledger.
use Rattle.std.specs.Prelude.{◌≡◌}
use Rattle.fluid_types.specs.Ledger.{Ledger, order}
use Rattle.fluid_scribe.specs.State.{state_of}
use Rattle.fluid_scribe.specs.Scribing.{Scribing}

-- a scribe stands for a ledger where it keeps what is kept of its order
pub record StandsFor (s : Scribing) (ledger : Ledger) : Type 0 where
  pub is : s.state ≡ state_of (order ledger)
