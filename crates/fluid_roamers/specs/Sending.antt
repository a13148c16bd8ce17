-- What sending owes, on the lane of a roamer's document.
use Rattle.std.specs.Prelude.{◌≡◌, List, [], ◌∷◌, Option, Some, None, is_some, Result, Ok, Err}
use Rattle.fluid_types.specs.declared.entries.Offered.TheVariants.{Op}
use Rattle.fluid_types.specs.declared.nacks.NackRule.{NackRule}
use Rattle.fluid_edits.specs.declared.edit.Edit.{Edit}
use Rattle.fluid_edits.specs.Forms.{contents_of}
use Rattle.fluid_rules.specs.declared.limits.Limits.{Limits}
use Rattle.fluid_lane.specs.Standing.{Standing}
use Rattle.fluid_transcript.specs.World.{World, Document, Roamer as ARoamer, ledger_of, with_entries}
use Rattle.fluid_transcript.specs.Containers.{Submitted, submitting}
use Rattle.fluid_transcript.specs.Roamers.{sending}
use Rattle.fluid_desk.specs.declared.stop.Stop.{Stop}
use Rattle.fluid_desk.specs.Stands.{IsLaneOf}
use Rattle.fluid_desk.specs.Stopping.{IsHonest, steps_on}
use Rattle.fluid_outbox.specs.Past.{Past}
use Rattle.fluid_roamers.specs.Roaming.{IsRoaming}
use Rattle.fluid_roamers.specs.Taking.{Loses}
use Rattle.fluid_roamers.specs.declared.roamer.Roamer.{Roamer}
use Rattle.fluid_roamers.specs.declared.sending.Sent.{Sent}
use Rattle.fluid_roamers.specs.declared.sending.Sent.TheVariants.{Nothing, Taken, Refused}

-- an op of an edit, as the world submits it
abbrev pub op_on : Limits → World → Document → ARoamer → Edit → Submitted
op_on limits w d k edit = submitting limits w (ledger_of d) k.client Op (contents_of edit)

abbrev pub lost_if : Option NackRule → ARoamer → ARoamer
lost_if rule k = record k { is_lost = is_some rule }

-- the first of the edits that wait was sent
pub record SentFirst (limits : Limits) (w : World) (d : Document) (k : ARoamer) (rest : List Edit) (new : Standing) (h : Roamer) (rule : Option NackRule) : Type 0 where
  pub first : Edit
  pub more : List Edit
  pub are : rest ≡ first ∷ more
  pub refused : (op_on limits w d k first).refused ≡ rule
  pub stands : IsLaneOf limits new (with_entries (op_on limits w d k first).entries d)
  pub roams : IsRoaming (ledger_of (with_entries (op_on limits w d k first).entries d)) h (lost_if rule k) more

abbrev pub SendsOne : Limits → World → Document → ARoamer → List Edit → Standing → Roamer → Result Sent Stop → Type 0
SendsOne limits w d k rest new h (Ok Nothing) = (rest ≡ []) × ((IsLaneOf limits new d) × (IsRoaming (ledger_of d) h k []))
SendsOne limits w d k rest new h (Ok Taken) = SentFirst limits w d k rest new h None
SendsOne limits w d k rest new h (Ok (Refused rule)) = SentFirst limits w d k rest new h (Some rule)
SendsOne limits w d k rest new h (Err stop) = IsHonest (steps_on d new) stop

-- all that waits, up to the first that is refused
pub record HasSent (limits : Limits) (w : World) (d : Document) (k : ARoamer) (rest : List Edit) (new : Standing) (h : Roamer) (rule : Option NackRule) : Type 0 where
  pub refused : (sending limits w d k.client rest).refused ≡ rule
  pub stands : IsLaneOf limits new (with_entries (sending limits w d k.client rest).entries d)
  pub roams : IsRoaming (ledger_of (with_entries (sending limits w d k.client rest).entries d)) h (lost_if rule k) []

abbrev pub SendsAll : Limits → World → Document → ARoamer → List Edit → Standing → Roamer → Result (Option NackRule) Stop → Type 0
SendsAll limits w d k rest new h (Ok rule) = HasSent limits w d k rest new h rule
SendsAll limits w d k rest new h (Err stop) = IsHonest (steps_on (with_entries (sending limits w d k.client rest).entries d) new) stop

-- behind an edit that was sent: it was taken, and the roamer is as it was, or refused, and its connection is lost
abbrev pub LeavesSent : Past → (old new : Roamer) → Option NackRule → Sent → Type 0
LeavesSent past old new None sent = (sent ≡ Taken) × (new ≡ old)
LeavesSent past old new (Some rule) sent = (sent ≡ Refused rule) × Loses past old new
