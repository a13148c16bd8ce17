-- What the entry of a client's submission owes, on the lane of the document and on a desk.
use Rattle.std.specs.Prelude.{◌≡◌, ◌++◌, ℕ, ⊤, [], ◌∷◌, Option, Some, None, Result, Ok, Err}
use Rattle.fluid_types.specs.Ledger.{Ledger}
use Rattle.fluid_types.specs.declared.entries.Raw.{Raw}
use Rattle.fluid_types.specs.declared.entries.Raw.TheVariants.{Join, Leave, Submit, Report}
use Rattle.fluid_types.specs.declared.verdicts.Verdict.{Verdict}
use Rattle.fluid_rules.specs.Rules.{verdict}
use Rattle.fluid_rules.specs.declared.limits.Limits.{Limits}
use Rattle.fluid_lane.specs.declared.fault.LaneFault.{LaneFault}
use Rattle.fluid_lane.specs.declared.fault.LaneFault.TheVariants.{Full}
use Rattle.fluid_lane.specs.Standing.{Standing}
use Rattle.fluid_lanes.specs.Opened.{Opened}
use Rattle.fluid_voice.specs.declared.ends.ActEnd.TheVariants.{Entered, FullNow}
use Rattle.fluid_voice.specs.Ends.{entry_end}
use Rattle.fluid_transcript.specs.World.{World, Document, document, ledger_of}
use Rattle.fluid_desk.specs.declared.stop.Stop.{Stop}
use Rattle.fluid_desk.specs.Stands.{IsLaneOf, DeskStands}
use Rattle.fluid_desk.specs.Stopping.{stop_of, IsHonest, steps_on, MayStop}
use Rattle.fluid_workload.specs.Working.{work, behind_entry}

abbrev pub IsSubmission : Raw → Type 0
IsSubmission (Submit id submission moment) = ⊤
IsSubmission (Join id scopes detail moment) = ⊥
IsSubmission (Leave id moment) = ⊥
IsSubmission (Report summary found moment) = ⊥

-- a full document refuses it, which is no fault
abbrev pub unentered_by : LaneFault → Result (Option Verdict) Stop
unentered_by (Full most) = Ok None
unentered_by fault = Err (stop_of fault)

-- its verdict, or none where the document is full
abbrev pub IsVerdictOn : Limits → Ledger → Raw → Option Verdict → Type 0
IsVerdictOn limits l raw None = entry_end limits l raw ≡ FullNow
IsVerdictOn limits l raw (Some v) = (entry_end limits l raw ≡ Entered v) × (v ≡ verdict l raw)

-- the document with it
abbrev pub with_entry : Document → Raw → Option Verdict → Document
with_entry d raw None = record { raws = d.raws ++ []; checkpoints = d.checkpoints ++ [] }
with_entry d raw (Some v) = record { raws = d.raws ++ raw ∷ []; checkpoints = d.checkpoints ++ [] }

pub record HasEntered (limits : Limits) (d : Document) (raw : Raw) (new : Standing) (said : Option Verdict) : Type 0 where
  pub stands : IsLaneOf limits new (with_entry d raw said)
  pub verdict_is : IsVerdictOn limits (ledger_of d) raw said

abbrev pub EntersLane : Limits → Document → Raw → Standing → Result (Option Verdict) Stop → Type 0
EntersLane limits d raw new (Ok said) = HasEntered limits d raw new said
EntersLane limits d raw new (Err stop) = IsHonest (steps_on d new) stop

-- on a desk: the entry of a client's connection
pub record DeskEntered (limits : Limits) (w : World) (client : ℕ) (raw : Raw) (new : Opened) (said : Option Verdict) : Type 0 where
  pub stands : DeskStands new (behind_entry limits w client raw)
  pub verdict_is : IsVerdictOn limits (ledger_of (document w work)) raw said

abbrev pub EntersDesk : Limits → World → (client : ℕ) → Raw → Opened → Result (Option Verdict) Stop → Type 0
EntersDesk limits w client raw new (Ok said) = DeskEntered limits w client raw new said
EntersDesk limits w client raw new (Err stop) = MayStop w new stop
