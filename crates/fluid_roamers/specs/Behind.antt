-- What a step of a roamer owes behind its first part, on the lane of its document.
use Rattle.std.specs.Prelude.{◌≡◌, ◌<◌, ◌^◌, ℕ, false, List, is_some, Result, Ok, Err}
use Rattle.fluid_types.specs.Ledger.{Ledger}
use Rattle.fluid_rules.specs.Rules.{client}
use Rattle.fluid_holding.specs.Laws.{Stands}
use Rattle.fluid_rules.specs.declared.limits.Limits.{Limits}
use Rattle.fluid_lane.specs.Standing.{Standing}
use Rattle.fluid_transcript.specs.World.{World, Document, Roamer as ARoamer, ledger_of, with_entries}
use Rattle.fluid_transcript.specs.Containers.{id_of}
use Rattle.fluid_transcript.specs.Roamers.{with_join, sends_again, stands_again, again_line}
use Rattle.fluid_desk.specs.declared.stop.Stop.{Stop}
use Rattle.fluid_desk.specs.Stands.{IsLaneOf}
use Rattle.fluid_desk.specs.Stopping.{IsHonest, steps_on}
use Rattle.fluid_roamers.specs.Roaming.{IsRoamerIn}
use Rattle.fluid_roamers.specs.declared.roamer.Roamer.{Roamer}

-- a roamer whose last client left this document, which has so many entries
pub record IsBehindLeave (l : Ledger) (entries : ℕ) (h : Roamer) (k : ARoamer) : Type 0 where
  pub roams : IsRoamerIn l h k
  pub stands : Stands l k.client
  pub gone : is_some (client l (id_of k.client)) ≡ false
  pub later : k.client.entries < entries
  pub fits : entries < 2 ^ 64

-- behind the leave of its last client, in this document, and the join of its new one
pub record IsBack (limits : Limits) (w : World) (d : Document) (k : ARoamer) (r : List ℕ) (new : Standing) (h : Roamer) (line : List ℕ) : Type 0 where
  pub stands : IsLaneOf limits new (with_entries (sends_again limits w d k).entries (with_join w d))
  pub roams : IsRoamerIn (ledger_of (with_entries (sends_again limits w d k).entries (with_join w d))) h (stands_again limits w d k)
  pub says : line ≡ again_line limits w r d k

abbrev pub ComesBack : Limits → World → Document → ARoamer → (r : List ℕ) → Standing → Roamer → Result (List ℕ) Stop → Type 0
ComesBack limits w d k r new h (Ok line) = IsBack limits w d k r new h line
ComesBack limits w d k r new h (Err stop) = IsHonest (steps_on (with_entries (sends_again limits w d k).entries (with_join w d)) new) stop
