-- What an entry of a roamer's client owes, on the lane of its document.
use Rattle.std.specs.Prelude.{◌≡◌, ⊤, Option, Result, Ok, Err}
use Rattle.fluid_types.specs.declared.entries.Raw.{Raw}
use Rattle.fluid_types.specs.declared.nacks.NackRule.{NackRule}
use Rattle.fluid_rules.specs.declared.limits.Limits.{Limits}
use Rattle.fluid_lane.specs.Standing.{Standing}
use Rattle.fluid_voice.specs.declared.ends.ActEnd.{ActEnd}
use Rattle.fluid_voice.specs.declared.ends.ActEnd.TheVariants.{Entered, FullNow}
use Rattle.fluid_voice.specs.Ends.{entry_end}
use Rattle.fluid_transcript.specs.World.{Document, ledger_of, with_entries}
use Rattle.fluid_transcript.specs.Containers.{Submitted, refusal_in, submitted_as}
use Rattle.fluid_desk.specs.declared.stop.Stop.{Stop}
use Rattle.fluid_desk.specs.Stands.{IsLaneOf}
use Rattle.fluid_desk.specs.Stopping.{IsHonest, steps_on}

-- how an entry may end, and by which rule it is refused then, if it is
abbrev pub IsEntering : ActEnd → Type 0
IsEntering (Entered verdict) = ⊤
IsEntering FullNow = ⊤
IsEntering end = ⊥

abbrev pub IsRefusedAs : ActEnd → Option NackRule → Type 0
IsRefusedAs end rule = rule ≡ refusal_in end

-- an entry as the world has it: what it adds to the document, and by which rule it is refused
abbrev pub entered_on : Limits → Document → Raw → Submitted
entered_on limits d raw = submitted_as (ledger_of d) raw (entry_end limits (ledger_of d) raw)

pub record HasEntered (limits : Limits) (d : Document) (raw : Raw) (new : Standing) (rule : Option NackRule) : Type 0 where
  pub stands : IsLaneOf limits new (with_entries (entered_on limits d raw).entries d)
  pub refused : rule ≡ (entered_on limits d raw).refused

abbrev pub SubmitsLane : Limits → Document → Raw → Standing → Result (Option NackRule) Stop → Type 0
SubmitsLane limits d raw new (Ok rule) = HasEntered limits d raw new rule
SubmitsLane limits d raw new (Err stop) = IsHonest (steps_on d new) stop
