-- What is heard fits a document's log.
use Rattle.std.specs.Prelude.{◌≤◌, ⊤, ℕ, List, length, All}
use Rattle.fluid_types.specs.Names.{IsName}
use Rattle.fluid_types.specs.Forms.{largest}
use Rattle.fluid_types.specs.Fits.{Fits}
use Rattle.fluid_types.specs.declared.entries.Raw.{Raw}
use Rattle.fluid_types.specs.declared.entries.Raw.TheVariants.{Join, Leave, Submit, Report}
use Rattle.fluid_readback.specs.Laws.{longest_text}
use Rattle.fluid_voice.specs.declared.states.VoiceState.{VoiceState}
use Rattle.fluid_voice.specs.declared.actions.Act.{Act}
use Rattle.fluid_voice.specs.declared.actions.Act.TheVariants as act
use Rattle.fluid_voice.specs.Heard.{acts_of}

abbrev pub IsLeaveOrSubmission : Raw → Type 0
IsLeaveOrSubmission (Submit id submission moment) = ⊤
IsLeaveOrSubmission (Join id scopes detail moment) = ⊥
IsLeaveOrSubmission (Leave id moment) = ⊤
IsLeaveOrSubmission (Report summary found moment) = ⊥

-- what it enters is a submission or a leave that fits, or a join that fits whichever name its client gets
abbrev pub IsFitting : Act → Type 0
IsFitting (act.Say reply) = ⊤
IsFitting (act.Connect name write scopes detail moment) = (id : List ℕ) → IsName id → Fits (Join id scopes detail moment)
IsFitting (act.Enter raw) = IsLeaveOrSubmission raw × Fits raw
IsFitting (act.Deltas from to) = ⊤
IsFitting (act.Summary asked) = ⊤
IsFitting (act.GetObject id) = ⊤
IsFitting (act.PutObject bytes) = ⊤

-- all that is asked by a text of no more than the bytes that a connection hears
abbrev pub HeardFits : Type 0
HeardFits =
    (s : VoiceState) (text : List ℕ) (moment : ℕ) → length text ≤ longest_text → moment ≤ largest → All IsFitting (acts_of s text moment)
