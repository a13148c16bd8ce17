-- Why a call of a lane is refused: the rules that refuse it, in their order, and the faults that may come where none does.
use Rattle.std.specs.Prelude.{◌≡◌, ℕ, nat_le, Bool, true, false, ◌&&◌, ◌⊎◌, List, [], ◌∷◌, Option, Some, None, IsSome, Result, Err, IfErr, OnOk}
use Rattle.std.specs.FinMap.{len}
use Rattle.fluid_types.specs.declared.entries.Raw.{Raw}
use Rattle.fluid_rules.specs.Counted.{is_counted}
use Rattle.fluid_log.specs.Calls.{KeepsSame}
use Rattle.fluid_lane.specs.declared.fault.LaneFault.{LaneFault}
use Rattle.fluid_lane.specs.declared.fault.LaneFault.TheVariants.{Full, NoCheckpoint, CheckpointsFull, TooManyClients, Worn}
use Rattle.fluid_lane.specs.Faults.{IsLogFailed}
use Rattle.fluid_lane.specs.Standing.{Standing, is_worn}

-- the cut that is owed failed: it still is, and nothing changed
pub record IsCutFailed (old new : Standing) : Type 0 where
  pub was_owed : old.owed ≡ true
  pub is_owed : new.owed ≡ true
  pub kept : KeepsSame old.keeping new.keeping

-- the fault of the first rule that refuses the call; none where no rule does
abbrev pub first_refusal : List (Bool × LaneFault) → Option LaneFault
first_refusal [] = None
first_refusal ((true, fault) ∷ rules) = Some fault
first_refusal ((false, fault) ∷ rules) = first_refusal rules

-- why a fault comes: it is that of the first rule that refuses, or the cut that is owed failed. Where no rule refuses, it is one
-- that may come
abbrev pub IsCause : (old new : Standing) → (LaneFault → Type 0) → Option LaneFault → LaneFault → Type 0
IsCause old new may None fault = may fault
IsCause old new may (Some refusal) fault = (fault ≡ refusal) ⊎ (IsLogFailed fault × IsCutFailed old new)

-- the answer, by the lane as it was: worn is looked at first, then the rules in their order. Where none refuses, the faults that may come are these
pub record IsGated {A : Type 0} (old new : Standing) (rules : List (Bool × LaneFault)) (may : LaneFault → Type 0) (result : Result A LaneFault) : Type 0 where
  pub worn : is_worn old ≡ true → (result ≡ Err Worn) × (new ≡ old)
  -- an answer that isn't a fault comes where no rule refuses
  pub passes : OnOk result ((is_worn old ≡ false) × (first_refusal rules ≡ None))
  -- and a fault of a lane that isn't worn has a cause
  pub refuses : is_worn old ≡ false → IfErr result (IsCause old new may (first_refusal rules))
  -- where no cut is owed, a call that a rule refuses doesn't ask the keeper
  pub unasked : IsSome (first_refusal rules) → old.owed ≡ false → new ≡ old
  pub unread : IsSome (first_refusal rules) → new.keeping.reads ≡ old.keeping.reads

-- ---- rules that refuse a call

abbrev pub is_full : Standing → Bool × LaneFault
is_full s = (nat_le s.limits.entries s.entries.counted, Full s.limits.entries)

-- the same of an entry, which may be one that isn't counted
abbrev pub is_full_for : Standing → Raw → Bool × LaneFault
is_full_for s raw = (nat_le s.limits.entries s.entries.counted && is_counted raw, Full s.limits.entries)

abbrev pub has_too_many : Standing → Bool × LaneFault
has_too_many s = (nat_le s.limits.clients (len s.entries.state.sequencer.rows), TooManyClients)

abbrev pub has_checkpoints : Standing → Bool × LaneFault
has_checkpoints s = (nat_le s.limits.checkpoints s.keeping.checkpoints, CheckpointsFull)

abbrev pub has_no_checkpoint : Standing → ℕ → Bool × LaneFault
has_no_checkpoint s asked = (nat_le s.keeping.checkpoints asked, NoCheckpoint asked s.keeping.checkpoints)
