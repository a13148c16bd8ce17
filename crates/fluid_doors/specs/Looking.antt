-- What a document answers to an act that enters nothing.
use Rattle.std.specs.Prelude.{◌≡◌, ⊤, ℕ, true, false, List, [], Option, option_map, Result, Ok, IfOk, IfErr}
use Rattle.fluid_types.specs.Ledger.{Ledger}
use Rattle.fluid_rules.specs.Rules.{IsLegal}
use Rattle.fluid_codec.specs.declared.events.Asked.{Asked}
use Rattle.fluid_codec.specs.declared.events.Asked.TheVariants.{Latest, Handle}
use Rattle.fluid_deltas.specs.declared.fault.DeltaFault.{DeltaFault}
use Rattle.fluid_lane.specs.declared.steps.Step.{Step}
use Rattle.fluid_lane.specs.Steps.{ledger}
use Rattle.fluid_voice.specs.declared.actions.Act.{Act}
use Rattle.fluid_voice.specs.declared.actions.Act.TheVariants.{Connect, Deltas, Summary}
use Rattle.fluid_voice.specs.declared.ends.ActEnd.{ActEnd}
use Rattle.fluid_voice.specs.declared.ends.ActEnd.TheVariants.{Told}
use Rattle.fluid_voice.specs.Ends.{range_asked, Held, Found, outcome}
use Rattle.fluid_voice.specs.Ends.Outcome.{ends}
use Rattle.fluid_voice.specs.Suits.{Suits}
use Rattle.fluid_doors.specs.declared.bench.Terms.{Terms}
use Rattle.fluid_doors.specs.Answers.{is_worn_behind}
use Rattle.fluid_doors.specs.Collecting.{IsReadFault, IsWornDelta, IsFaultIn}

-- a range of messages, a summary, or a connect that enters no join
abbrev pub IsLook : Act → Type 0
IsLook (Connect name write scopes detail moment) = write ≡ false
IsLook (Deltas from to) = ⊤
IsLook (Summary asked) = ⊤
IsLook act = ⊥

-- what such an act finds: the document, which is open, and its ledger, whatever a store holds
abbrev pub found_in : Terms → Ledger → Held → Found
found_in t l held = record { opened = []; limits = t.limits; ledger = l; held = held }

-- only a range fails: where some order gave the range that was asked for, by the keeper or at one of its numbers
abbrev pub IsLookFault : Act → DeltaFault → Type 0
IsLookFault (Deltas from to) fault = (last first end : ℕ) × ((range_asked last from to ≡ Ok (first, end)) × IsFaultIn first end fault)
IsLookFault act fault = ⊥

-- the end is read out of the ledger, which is legal
pub record LooksTold (t : Terms) (act : Act) (result : Result ActEnd DeltaFault) (l : List Step) : Type 0 where
  pub legal : IsLegal (ledger l)
  pub read : IfOk result (λ end. (held : Held) → outcome (found_in t (ledger l) held) act ≡ ends end)
  -- a delta is never bad
  pub faults : IfErr result IsReadFault

-- an end that the act may have; a connect is told a number
abbrev pub SuitsLook : Act → ActEnd → Type 0
SuitsLook (Connect name write scopes detail moment) (Told last) = ⊤
SuitsLook (Connect name write scopes detail moment) end = ⊥
SuitsLook act end = Suits act end

-- Over any keeper the end is such a one, and worn comes only where the list is as long as may be
pub record Looks (t : Terms) (act : Act) (result : Result ActEnd DeltaFault) (l : List Step) : Type 0 where
  pub worn : IfErr result (λ fault. IsWornDelta fault → is_worn_behind l ≡ true)
  pub suits : IfOk result (SuitsLook act)
  pub faults : IfErr result (IsLookFault act)
  pub told : t.told ≡ true → LooksTold t act result l

-- ---- for private clauses

-- an answer to a handle is given under it
abbrev pub under : Asked → Option (List ℕ × ℕ) → Option (List ℕ × ℕ)
under Latest found = found
under (Handle handle) found = option_map (λ (pair : List ℕ × ℕ). (handle, pair.1)) found
