-- What the acts of a workload do: they are done one after another in the world of a script, at its moment, over one document.
use Rattle.std.specs.Prelude.{ℕ, ◌+◌, ◌-◌, nat_le, Bool, true, false, ◌&&◌, List, [], ◌∷◌, ◌++◌, length, fold, codes, decimal, pos, Option, Some, None, is_some, unwrap_or, option_map, option_and_then, bytes_eq, Ok, if◌then◌else◌}
use Rattle.std.specs.Option.{option_to_list}
use Rattle.std.specs.FinMap.{FinMap, empty, get, insert}
use Rattle.fluid_json.specs.Tree.{Tree, null, whole}
use Rattle.fluid_table.specs.Table.{byte_order}
use Rattle.fluid_types.specs.Forms.{largest}
use Rattle.fluid_types.specs.declared.entries.Raw.{Raw}
use Rattle.fluid_types.specs.declared.entries.Raw.TheVariants.{Submit}
use Rattle.fluid_types.specs.declared.entries.Submission.{Submission}
use Rattle.fluid_types.specs.declared.entries.Offered.{Offered}
use Rattle.fluid_types.specs.declared.entries.Offered.TheVariants.{Op, Noop}
use Rattle.fluid_types.specs.Ledger.{Ledger}
use Rattle.fluid_rules.specs.Past.{Client}
use Rattle.fluid_rules.specs.Rules.{client as said_of}
use Rattle.fluid_rules.specs.declared.limits.Limits.{Limits}
use Rattle.fluid_edits.specs.declared.edit.Edit.{Edit}
use Rattle.fluid_edits.specs.declared.edit.Edit.TheVariants as edit
use Rattle.fluid_edits.specs.declared.edit.ChannelKind.TheVariants.{Map, Counter}
use Rattle.fluid_edits.specs.Forms.{contents_of}
use Rattle.fluid_loader.specs.declared.link.Pick.TheVariants as pick
use Rattle.fluid_loader.specs.Submitting.{numbered}
use Rattle.fluid_steps.specs.declared.steps.Step.{Step}
use Rattle.fluid_steps.specs.declared.steps.Step.TheVariants as step
use Rattle.fluid_voice.specs.declared.states.VoiceState.{VoiceState}
use Rattle.fluid_voice.specs.declared.states.VoiceState.TheVariants.{Fresh, Reading, Writing, Used}
use Rattle.fluid_voice.specs.declared.actions.Act.TheVariants.{Enter}
use Rattle.fluid_voice.specs.declared.ends.ActEnd.{ActEnd}
use Rattle.fluid_voice.specs.declared.ends.ActEnd.TheVariants.{Entered}
use Rattle.fluid_voice.specs.Ends.{entry_end}
use Rattle.fluid_voice.specs.States.{next_number}
use Rattle.fluid_gen.specs.declared.act.Act.{Act}
use Rattle.fluid_gen.specs.declared.act.Act.TheVariants.{Begin, Join, Collect, Noop as FirstNoop, Again, Gap, Set, Delete, Increment, Round, Finish}
use Rattle.fluid_transcript.specs.World.{World, document, ledger_of, changed}
use Rattle.fluid_transcript.specs.Connections.{voice_of, effect_of, hear_act, hearing}
use Rattle.fluid_transcript.specs.Containers.{is_taken}
use Rattle.fluid_transcript.specs.Steps.{refusal}
use Rattle.fluid_transcript.specs.Transcript.{done, last_pick}

-- ---- names

-- the document, its map and its counter
abbrev pub work : List ℕ
work = codes "work"

abbrev pub m : List ℕ
m = codes "m"

abbrev pub n : List ℕ
n = codes "n"

-- the first container, and the one that is loaded at the end
abbrev pub p : List ℕ
p = codes "p"

abbrev pub q : List ℕ
q = codes "q"

-- a client's connection
abbrev pub named : (client : ℕ) → List ℕ
named client = decimal client

-- a key of the map
abbrev pub key_of : ℕ → List ℕ
key_of key = codes "k" ++ decimal key

-- ---- a client

-- what it says to join: all scopes, and no detail
abbrev pub connecting : List ℕ
connecting = codes "[\"connect_document\",{\"id\":\"work\",\"mode\":\"write\",\"scopes\":[\"doc:read\",\"doc:write\",\"summary:write\"]}]"

-- the id of a client that writes to the document
abbrev pub id_at : VoiceState → Option (List ℕ)
id_at Fresh = None
id_at (Reading name next) = None
id_at (Writing name id next) = if bytes_eq name work then Some id else None
id_at Used = None

-- the last number that it collected
abbrev pub last_collected : World → (client : ℕ) → ℕ
last_collected w client = next_number (voice_of w (named client)) - 1

-- its last client number, by what the rules say of it; 0 of one that isn't joined
abbrev pub last_number : Ledger → (id : List ℕ) → ℕ
last_number l id = unwrap_or (option_map (λ (said : Client). said.last) (said_of l id)) 0

-- ---- a workload

-- a world, and of each client, by its name, the last submission that was sequenced or absorbed
pub record Workload : Type 0 where
  pub world : World
  pub sent : FinMap byte_order Submission

-- at its beginning
abbrev pub begun : World → Workload
begun w = record { world = w; sent = empty }

abbrev pub work_ledger : Workload → Ledger
work_ledger w = ledger_of (document w.world work)

-- ---- what a client submits

-- a submission with this client number and this reference, where a record can have both
abbrev pub within : (number reference : ℕ) → Offered → Tree → Option Submission
within number reference kind contents = if nat_le number largest && nat_le reference largest then Some (numbered number reference kind contents) else None

-- the noop behind its join
abbrev pub first_noop : Workload → (client : ℕ) → (id : List ℕ) → Option Submission
first_noop w client id = within 1 (last_collected w.world client) Noop null

-- an op with the number that comes so far behind its last one, and with the last number that it collected as its reference
abbrev pub next_op : (more : ℕ) → Tree → Workload → (client : ℕ) → (id : List ℕ) → Option Submission
next_op more contents w client id = within (last_number (work_ledger w) id + more) (last_collected w.world client) Op contents

-- the op of this edit
abbrev pub op : Edit → Workload → (client : ℕ) → (id : List ℕ) → Option Submission
op edit = next_op 1 (contents_of edit)

-- one without contents that leaves a number out
abbrev pub op_behind_gap : Workload → (client : ℕ) → (id : List ℕ) → Option Submission
op_behind_gap = next_op 2 null

-- its last one once more
abbrev pub last_again : Workload → (client : ℕ) → (id : List ℕ) → Option Submission
last_again w client id = get w.sent (named client)

-- ---- what an act does

-- a step of a script; a restart from the newest checkpoint; or the submission of a client, under its id
pub data Deed : Type 0 where
  does : Step → Deed
  restarts : Deed
  submits : (client : ℕ) → (id : List ℕ) → Submission → Deed

-- the client submits what it has, where it has joined and has something
abbrev pub submitting : Workload → (client : ℕ) → (Workload → (client : ℕ) → (id : List ℕ) → Option Submission) → List Deed
submitting w client has = option_to_list (option_and_then (λ id. option_map (submits client id) (has w client id)) (id_at (voice_of w.world (named client))))

-- one thing after another
abbrev pub deeds : Workload → Act → List Deed
deeds w Begin =
    does (step.Load p work pick.Empty)
    ∷ does (step.Edit p (Ok (edit.Attach m Map)))
    ∷ does (step.Edit p (Ok (edit.Attach n Counter)))
    ∷ does (step.Pump p)
    ∷ []
deeds w (Join client) = does (step.Send (named client) connecting) ∷ []
deeds w (Collect client) = does (step.Collect (named client)) ∷ []
deeds w (FirstNoop client) = submitting w client first_noop
deeds w (Again client) = submitting w client last_again
deeds w (Gap client) = submitting w client op_behind_gap
deeds w (Set client key value) = submitting w client (op (edit.Set m (key_of key) (whole (pos value))))
deeds w (Delete client key) = submitting w client (op (edit.Delete m (key_of key)))
deeds w (Increment client amount) = submitting w client (op (edit.Increment n amount))
deeds w Round = does (step.Pump p) ∷ does (step.Summarize p) ∷ does (step.Scribe work) ∷ does (step.Checkpoint work) ∷ restarts ∷ []
deeds w Finish = does (step.Load q work (last_pick (document w.world work))) ∷ does (step.Pump p) ∷ []

-- ---- what comes of it

-- a step that is refused is passed over
abbrev pub behind_step : Limits → World → Step → World
behind_step limits w s = if is_some (refusal w s) then w else (done limits w s).world

abbrev pub stepped : Limits → Workload → Step → Workload
stepped limits w s = record w { world = behind_step limits w.world s }

-- the newest checkpoint
abbrev pub newest : World → ℕ
newest w = length (document w work).checkpoints - 1

-- the connection of a client enters this
abbrev pub behind_entry : Limits → World → (client : ℕ) → Raw → World
behind_entry limits w client raw =
    changed (effect_of (named client) (hear_act limits w.opened (named client) (document w work) (hearing w (named client)) (Enter raw))) (Some work) w

-- it was sequenced or absorbed
abbrev pub takes : ActEnd → Bool
takes (Entered verdict) = is_taken verdict
takes end = false

abbrev pub entered : Limits → Workload → (client : ℕ) → Submission → Raw → Workload
entered limits w client s raw = record {
  world = behind_entry limits w.world client raw;
  sent = if takes (entry_end limits (work_ledger w) raw) then insert w.sent (named client) s else w.sent;
}

abbrev pub behind_deed : Limits → Workload → Deed → Workload
behind_deed limits w (does s) = stepped limits w s
behind_deed limits w restarts = stepped limits w (step.Restart work (newest w.world))
behind_deed limits w (submits client id s) = entered limits w client s (Submit id s w.world.moment)

-- behind what a client has to submit
abbrev pub behind_saying : Limits → Workload → (client : ℕ) → (Workload → (client : ℕ) → (id : List ℕ) → Option Submission) → Workload
behind_saying limits w client has = fold (behind_deed limits) w (submitting w client has)

abbrev pub behind_act : Limits → Workload → Act → Workload
behind_act limits w act = fold (behind_deed limits) w (deeds w act)

-- acts one after another
abbrev pub behind_acts : Limits → Workload → List Act → Workload
behind_acts limits w acts = fold (behind_act limits) w acts
