-- How often there was each verdict.
use Rattle.std.specs.Prelude.{◌≡◌, ◌+◌, ◌<◌, ◌^◌, [], ◌∷◌, ◌++◌, length}
use Rattle.fluid_types.specs.Ledger.{Ledger, seq}
use Rattle.fluid_types.specs.declared.entries.Raw.{Raw}
use Rattle.fluid_types.specs.declared.verdicts.Verdict.{Verdict}
use Rattle.fluid_types.specs.declared.verdicts.Verdict.TheVariants.{Sequenced, Nacked, Dropped, Absorbed}
use Rattle.fluid_voice.specs.States.{number_behind}
use Rattle.fluid_voice.specs.Replies.{is_dropped, is_nacked}
use Rattle.fluid_workload.specs.Summary.{count, is_absorbed}
use Rattle.fluid_turns.specs.declared.tally.Tally.{Tally}

-- so often an entry of the ledger was absorbed, and so often one was nacked
pub record IsTally (l : Ledger) (t : Tally) : Type 0 where
  pub absorbed : t.absorbed ≡ count is_absorbed l
  pub nacked : t.nacked ≡ count is_nacked l

-- with one more of this verdict; counts stand still at the largest number of 64 bits
abbrev pub tally_with : Verdict → Tally → Tally
tally_with (Sequenced message) t = t
tally_with (Nacked nack) t = record t { nacked = number_behind t.nacked }
tally_with Dropped t = t
tally_with Absorbed t = record t { absorbed = number_behind t.absorbed }

-- one entry more
abbrev pub TalliesGrow : Type 0
TalliesGrow = (l : Ledger) (raw : Raw) (v : Verdict) (t : Tally) → length l + 1 < 2 ^ 64 → IsTally l t → IsTally (l ++ (raw, v) ∷ []) (tally_with v t)

-- each entry has a message, or was absorbed, nacked or dropped
abbrev pub EntriesAreCounted : Type 0
EntriesAreCounted = (l : Ledger) → length l ≡ seq l + (count is_absorbed l + (count is_nacked l + count is_dropped l))
