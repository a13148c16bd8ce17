-- What an act is asked of, what it finds there, and why a store fails at it.
use Rattle.std.specs.Prelude.{◌≡◌, ◌≢◌, ℕ, Bool, true, false, List, [], Some}
use Rattle.std.specs.FinMap.{get}
use Rattle.sha1.specs.Sha1.{sha1}
use Rattle.fluid_io.specs.Causes.{Tells}
use Rattle.fluid_types.specs.Ledger.{Ledger}
use Rattle.fluid_rules.specs.declared.limits.Limits.{Limits}
use Rattle.fluid_deltas.specs.Ranges.{IsNoted}
use Rattle.fluid_store.specs.Held.{Held}
use Rattle.fluid_store.specs.Storing.{Storing}
use Rattle.fluid_store.specs.declared.fault.StoreFault.{StoreFault}
use Rattle.fluid_store.specs.declared.fault.StoreFault.TheVariants as store
use Rattle.fluid_voice.specs.declared.actions.Act.{Act}
use Rattle.fluid_voice.specs.declared.actions.Act.TheVariants as act
use Rattle.fluid_voice.specs.Ends.{Found}

-- ---- of which the act is asked

-- acts that may enter an entry
abbrev pub is_entering : Act → Bool
is_entering (act.Connect name write scopes detail moment) = write
is_entering (act.Enter raw) = true
is_entering act = false

-- acts that are asked of a lane
abbrev pub is_asked_of_lane : Act → Bool
is_asked_of_lane (act.Connect name write scopes detail moment) = write
is_asked_of_lane (act.Enter raw) = true
is_asked_of_lane (act.Deltas from to) = true
is_asked_of_lane act = false

-- acts that ask for messages
abbrev pub is_range : Act → Bool
is_range (act.Deltas from to) = true
is_range a = false

-- acts that are asked of the store
abbrev pub is_asked_of_store : Act → Bool
is_asked_of_store (act.GetObject id) = true
is_asked_of_store (act.PutObject bytes) = true
is_asked_of_store act = false

-- ---- what it finds

-- what an act finds: the limits and the ledger of its document, which is open, and what the store holds
abbrev pub found_in : Limits → Ledger → Held → Found
found_in limits l held = record { opened = []; limits = limits; ledger = l; held = held }

-- ---- why a store fails

-- other bytes are held under the id of those that are put
pub record IsClash (a : Act) (id kept new : List ℕ) : Type 0 where
  pub put : a ≡ act.PutObject new
  pub of_new : id ≡ sha1 new
  pub differ : kept ≢ new

abbrev pub IsStoreCause : Act → Storing → Storing → StoreFault → Type 0
IsStoreCause act old new (store.StoreFailed note) = IsNoted old.faults new.faults note
IsStoreCause act old new (store.Clash id kept bytes) = IsClash act id kept bytes × Tells old.content (λ held. get held id ≡ Some kept)
IsStoreCause act old new fault = ⊥
