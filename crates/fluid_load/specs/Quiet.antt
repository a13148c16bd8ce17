-- What the steps of a workload enter.
use Rattle.std.specs.Prelude.{◌≡◌, ◌++◌, ⊤, Ok}
use Rattle.fluid_table.specs.Table.{Values}
use Rattle.fluid_types.specs.Ledger.{Ledger}
use Rattle.fluid_rules.specs.declared.limits.Limits.{Limits}
use Rattle.fluid_store.specs.Storing.{Storing}
use Rattle.fluid_lanes.specs.Opened.{Opened}
use Rattle.fluid_steps.specs.declared.steps.Step.{Step}
use Rattle.fluid_steps.specs.declared.steps.Step.TheVariants as step
use Rattle.fluid_transcript.specs.World.{World}
use Rattle.fluid_transcript.specs.Sound.{ledger_in}
use Rattle.fluid_workload.specs.Working.{work, connecting, behind_step}
use Rattle.fluid_voice.specs.Replies.{is_dropped}
use Rattle.fluid_workload.specs.Summary.{count, is_absorbed}
use Rattle.fluid_world.specs.declared.named.Named.{Named}
use Rattle.fluid_world.specs.Standing.{WorldStands}

-- a step of a workload: where it names a document, it names that of the workload
abbrev pub IsOwnStep : Step → Type 0
IsOwnStep (step.Send c text) = text ≡ connecting
IsOwnStep (step.Collect c) = ⊤
IsOwnStep (step.Scribe name) = name ≡ work
IsOwnStep (step.Checkpoint name) = name ≡ work
IsOwnStep (step.Restart name number) = name ≡ work
IsOwnStep (step.Load p name pick) = name ≡ work
IsOwnStep (step.Pump p) = ⊤
IsOwnStep (step.Edit p (Ok edit)) = ⊤
IsOwnStep (step.Summarize p) = ⊤
IsOwnStep other = ⊥

-- ---- those by which a container submits

-- the document goes on by entries none of which is absorbed or dropped
pub record GoesSubmitting (old new : Ledger) : Type 0 where
  pub more : Ledger
  pub is : new ≡ old ++ more
  pub absorbed : count is_absorbed more ≡ 0
  pub dropped : count is_dropped more ≡ 0

abbrev pub Submits : Step → Type 0
Submits step =
    (limits : Limits) (w : World) (lanes : Opened) (store : Storing) (names : Values Named) → WorldStands lanes store names w
    → GoesSubmitting (ledger_in w work) (ledger_in (behind_step limits w step) work)
