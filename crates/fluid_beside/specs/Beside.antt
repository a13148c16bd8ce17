-- What a step leaves of the names that aren't its own.
use Rattle.std.specs.Prelude.{◌≡◌, ◌≤◌, ◌^◌, ℕ, ⊤, false, List, ◌++◌, All, length, Option, Some, None, bytes_eq}
use Rattle.std.specs.FinMap.{get}
use Rattle.fluid_types.specs.Ledger.{Ledger}
use Rattle.fluid_rules.specs.declared.limits.Limits.{Limits}
use Rattle.fluid_steps.specs.declared.steps.Step.{Step}
use Rattle.fluid_steps.specs.declared.steps.Step.TheVariants.{Send, Collect, Close, Scribe, Checkpoint, Restart, Reopen, Sweep, Count, Tasks, Load, Pump, Edit, Beat, Summarize, Show, Roam, Say, Lose, Back, Acked}
use Rattle.fluid_transcript.specs.World.{Container, Roamer, container, roamer, World, document}
use Rattle.fluid_transcript.specs.Containers.{id_of}
use Rattle.fluid_transcript.specs.Steps.{refusal}
use Rattle.fluid_transcript.specs.Transcript.{done}
use Rattle.fluid_transcript.specs.Sound.{ledger_in, IsSound}
use Rattle.fluid_holding.specs.Holding.{is_made_by}

-- the name that a step may change
abbrev pub own_name : Step → Option (List ℕ)
own_name (Send c text) = Some c
own_name (Collect c) = Some c
own_name (Close c) = Some c
own_name (Scribe name) = None
own_name (Checkpoint name) = None
own_name (Restart name checkpoint) = None
own_name (Reopen name) = None
own_name (Sweep name silence) = None
own_name (Count name) = None
own_name (Tasks name) = None
own_name (Load p name pick) = Some p
own_name (Pump p) = Some p
own_name (Edit p op) = Some p
own_name (Beat p) = Some p
own_name (Summarize p) = Some p
own_name (Show p) = None
own_name (Roam r name) = Some r
own_name (Say r op) = Some r
own_name (Lose r) = Some r
own_name (Back r) = Some r
own_name (Acked r) = Some r

-- this is another one
abbrev pub IsOther : Option (List ℕ) → List ℕ → Type 0
IsOther None q = ⊤
IsOther (Some own) q = bytes_eq q own ≡ false

-- a ledger goes on by entries that this client didn't make
pub record GoesOnBeside (own : List ℕ) (old new : Ledger) : Type 0 where
  pub more : Ledger
  pub is : new ≡ old ++ more
  pub beside : All (λ entry. is_made_by own entry.0 ≡ false) more

-- a name stands for what it stood for, and a container's document, or a roamer's, goes on beside its client
pub record LeavesName (old new : World) (q : List ℕ) : Type 0 where
  pub name : get new.names q ≡ get old.names q
  pub container :
      (k : Container) → get old.names q ≡ Some (container k) → length (document new k.document).raws ≤ 2 ^ 64
      → GoesOnBeside (id_of k) (ledger_in old k.document) (ledger_in new k.document)
  pub roamer :
      (k : Roamer) → get old.names q ≡ Some (roamer k) → length (document new k.client.document).raws ≤ 2 ^ 64
      → GoesOnBeside (id_of k.client) (ledger_in old k.client.document) (ledger_in new k.client.document)

abbrev pub StepsLeaveOthers : Type 0
StepsLeaveOthers =
    (limits : Limits) (w : World) (step : Step) (q : List ℕ) → IsSound w → refusal w step ≡ None → IsOther (own_name step) q
    → LeavesName w (done limits w step).world q

-- a step that puts no objects
abbrev pub PutsNone : Step → Type 0
PutsNone (Send c text) = ⊥
PutsNone (Scribe name) = ⊥
PutsNone (Summarize p) = ⊥
PutsNone step = ⊤

abbrev pub StepsKeepStore : Type 0
StepsKeepStore = (limits : Limits) (w : World) (step : Step) → PutsNone step → (done limits w step).world.store ≡ w.store
