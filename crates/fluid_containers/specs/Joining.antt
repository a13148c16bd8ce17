-- What a join of a container's client owes, on the lane of its document.
use Rattle.std.specs.Prelude.{◌≡◌, ℕ, ⊤, List, [], ◌++◌, length, Some, None, Result, Ok, Err}
use Rattle.fluid_types.specs.Names.{entry_name}
use Rattle.fluid_types.specs.declared.messages.Message.{Message}
use Rattle.fluid_types.specs.declared.verdicts.Verdict.TheVariants.{Sequenced}
use Rattle.fluid_rules.specs.Rules.{verdict}
use Rattle.fluid_rules.specs.declared.limits.Limits.{Limits}
use Rattle.fluid_lane.specs.Standing.{Standing}
use Rattle.fluid_voice.specs.declared.ends.ActEnd.{ActEnd}
use Rattle.fluid_voice.specs.declared.ends.ActEnd.TheVariants.{Joined, FullNow, TooMany}
use Rattle.fluid_voice.specs.declared.refusals.ConnectRefusal.{ConnectRefusal}
use Rattle.fluid_voice.specs.declared.refusals.ConnectRefusal.TheVariants.{DocumentFull, TooManyClients}
use Rattle.fluid_ends.specs.declared.fault.TalkFault.{TalkFault}
use Rattle.fluid_ends.specs.declared.fault.TalkFault.TheVariants as talk
use Rattle.fluid_transcript.specs.World.{World, Document, ledger_of}
use Rattle.fluid_transcript.specs.Containers.{joining, join_refusal, joined_for, join_for}
use Rattle.fluid_desk.specs.declared.stop.Stop.{Stop}
use Rattle.fluid_desk.specs.declared.stop.Stop.TheVariants.{NoMemory}
use Rattle.fluid_desk.specs.Stands.{IsLaneOf}
use Rattle.fluid_desk.specs.Stopping.{stop_of, IsHonest, steps_on}

-- how a join may end, and what is told of it
abbrev pub IsJoining : ActEnd → Type 0
IsJoining (Joined id number) = ⊤
IsJoining FullNow = ⊤
IsJoining TooMany = ⊤
IsJoining end = ⊥

abbrev pub EndsAs : ActEnd → Result (List ℕ) ConnectRefusal → Type 0
EndsAs (Joined id number) result = result ≡ Ok id
EndsAs FullNow result = result ≡ Err DocumentFull
EndsAs TooMany result = result ≡ Err TooManyClients
EndsAs end result = ⊤

-- a join is asked of the lane alone
abbrev pub joining_stop : TalkFault → Stop
joining_stop (talk.Lane fault) = stop_of fault
joining_stop other = NoMemory

-- the document with the join of the container's client, if that isn't refused
abbrev pub joined_to : Limits → World → Document → Document
joined_to limits w d = record { raws = d.raws ++ joined_for limits w d; checkpoints = d.checkpoints ++ [] }

-- the container's client joined, behind these entries
pub record HasJoined (limits : Limits) (w : World) (d : Document) (client : List ℕ) : Type 0 where
  pub taken : join_refusal (joining limits w (ledger_of d)) ≡ None
  pub message : Message
  pub sequenced : verdict (ledger_of d) (join_for w (ledger_of d)) ≡ Sequenced message
  pub client_is : client ≡ entry_name (length d.raws)

-- or the join is refused
abbrev pub JoinsAs : Limits → World → Document → Result (List ℕ) ConnectRefusal → Type 0
JoinsAs limits w d (Ok client) = HasJoined limits w d client
JoinsAs limits w d (Err refusal) = join_refusal (joining limits w (ledger_of d)) ≡ Some refusal

pub record LaneJoined (limits : Limits) (w : World) (d : Document) (new : Standing) (joined : Result (List ℕ) ConnectRefusal) : Type 0 where
  pub stands : IsLaneOf limits new (joined_to limits w d)
  pub joins : JoinsAs limits w d joined

abbrev pub JoinsLane : Limits → World → Document → Standing → Result (Result (List ℕ) ConnectRefusal) Stop → Type 0
JoinsLane limits w d new (Ok joined) = LaneJoined limits w d new joined
JoinsLane limits w d new (Err stop) = IsHonest (steps_on d new) stop
