-- What the steps of a workload enter by which nobody submits.
use Rattle.std.specs.Prelude.{◌≡◌, ◌++◌, ⊤, Bool, true, false}
use Rattle.fluid_types.specs.Ledger.{Ledger}
use Rattle.fluid_types.specs.declared.entries.Raw.{Raw}
use Rattle.fluid_types.specs.declared.entries.Raw.TheVariants.{Join, Leave, Submit, Report}
use Rattle.fluid_rules.specs.declared.limits.Limits.{Limits}
use Rattle.fluid_steps.specs.declared.steps.Step.{Step}
use Rattle.fluid_steps.specs.declared.steps.Step.TheVariants as step
use Rattle.fluid_transcript.specs.World.{World}
use Rattle.fluid_transcript.specs.Sound.{ledger_in}
use Rattle.fluid_workload.specs.Working.{work, connecting, behind_step}
use Rattle.fluid_voice.specs.Replies.{is_nacked}
use Rattle.fluid_workload.specs.Summary.{count, is_absorbed}

abbrev pub is_submission : Raw → Bool
is_submission (Join id scopes detail moment) = false
is_submission (Leave id moment) = false
is_submission (Submit id submission moment) = true
is_submission (Report summary found moment) = false

-- a step of a workload by which nobody submits
abbrev pub IsQuietStep : Step → Type 0
IsQuietStep (step.Send c text) = text ≡ connecting
IsQuietStep (step.Collect c) = ⊤
IsQuietStep (step.Scribe name) = ⊤
IsQuietStep (step.Checkpoint name) = ⊤
IsQuietStep (step.Restart name number) = ⊤
IsQuietStep (step.Load p name pick) = ⊤
IsQuietStep (step.Pump p) = ⊤
IsQuietStep other = ⊥

-- a ledger goes on by entries none of which is absorbed or nacked
pub record GoesQuietly (old new : Ledger) : Type 0 where
  pub more : Ledger
  pub is : new ≡ old ++ more
  pub absorbed : count is_absorbed more ≡ 0
  pub nacked : count is_nacked more ≡ 0

abbrev pub StepsGoQuietly : Type 0
StepsGoQuietly = (limits : Limits) (w : World) (step : Step) → IsQuietStep step → GoesQuietly (ledger_in w work) (ledger_in (behind_step limits w step) work)
