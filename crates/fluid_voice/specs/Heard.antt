-- What a text asks for: the acts of a connection that hears it, in order. The first case that fits decides.
use Rattle.std.specs.Prelude.{ℕ, Bool, not, ◌&&◌, if◌then◌else◌, List, [], ◌∷◌, ◌++◌, map, Ok, Err, is_ok, bytes_eq}
use Rattle.fluid_types.specs.Forms.{Read}
use Rattle.fluid_types.specs.declared.entries.Submission.{Submission}
use Rattle.fluid_types.specs.declared.entries.Raw.{Raw}
use Rattle.fluid_types.specs.declared.entries.Raw.TheVariants.{Submit}
use Rattle.fluid_types.specs.declared.fault.Field.TheVariants as field
use Rattle.fluid_types.specs.declared.fault.What.TheVariants.{NotAllowed}
use Rattle.fluid_types.specs.declared.fault.CodecFault.TheVariants.{BadField}
use Rattle.fluid_types.specs.declared.nacks.NackRule.{NackRule}
use Rattle.fluid_types.specs.declared.nacks.NackRule.TheVariants.{Unread, NotConnected, ForeignClient, ReadOnly}
use Rattle.fluid_tree.specs.Reading.{object_read}
use Rattle.fluid_codec.specs.Events.{event_spelled}
use Rattle.fluid_codec.specs.declared.events.Event.{Event}
use Rattle.fluid_codec.specs.declared.events.Event.TheVariants as event
use Rattle.fluid_codec.specs.declared.replies.Reply.TheVariants.{Nacked}
use Rattle.fluid_voice.specs.declared.refusals.ConnectRefusal.{ConnectRefusal}
use Rattle.fluid_voice.specs.declared.refusals.ConnectRefusal.TheVariants.{AlreadyConnected, ReadMissing}
use Rattle.fluid_voice.specs.declared.states.VoiceState.{VoiceState}
use Rattle.fluid_voice.specs.declared.states.VoiceState.TheVariants.{Fresh, Reading, Writing, Used}
use Rattle.fluid_voice.specs.declared.actions.Act.{Act}
use Rattle.fluid_voice.specs.declared.actions.Act.TheVariants as act
use Rattle.fluid_voice.specs.States.{document_name, is_connected, is_used}
use Rattle.fluid_voice.specs.Refusals.{refused, front_nack}

-- a nack of the front, under the name of the document to which the connection is connected, and none otherwise
abbrev pub nacks : VoiceState → NackRule → List Act
nacks s rule = act.Say (Nacked (document_name s) (front_nack rule)) ∷ []

abbrev pub refuses : ConnectRefusal → List Act
refuses refusal = act.Say (refused refusal) ∷ []

-- ---- a connect

-- a connected one isn't connected again, and one that may not read isn't either
abbrev pub connect_acts : VoiceState → Bool → Act → List Act
connect_acts s may_read connect =
    if is_connected s then refuses AlreadyConnected
    else if not may_read then refuses ReadMissing
    else connect ∷ []

-- ---- submissions

-- one entry for each submission, in their order
abbrev pub submission_acts : ℕ → List ℕ → List Submission → List Act
submission_acts moment id submissions = map (λ submission. act.Enter (Submit id submission moment)) submissions

-- only a client that writes may submit, and only under its own id
abbrev pub submit_acts : VoiceState → ℕ → List ℕ → List Submission → List Act
submit_acts Fresh moment id submissions = nacks Fresh NotConnected
submit_acts (Reading name next) moment id submissions = nacks (Reading name next) ReadOnly
submit_acts (Writing name own next) moment id submissions =
    if bytes_eq id own then submission_acts moment id submissions else nacks (Writing name own next) ForeignClient
submit_acts Used moment id submissions = nacks Used NotConnected

-- ---- questions

-- a connected one may ask
abbrev pub asks : VoiceState → Act → List Act
asks s question = if is_connected s then question ∷ [] else nacks s NotConnected

-- bytes that are no object aren't put
abbrev pub puts : VoiceState → List ℕ → List Act
puts s bytes =
    if not (is_connected s) then nacks s NotConnected
    else if is_ok (object_read bytes) then act.PutObject bytes ∷ []
    else nacks s (Unread (BadField field.Object NotAllowed))

-- ---- all of it

-- a join is entered where the mode is "write" and its scope is held
abbrev pub event_acts : VoiceState → ℕ → Event → List Act
event_acts s moment (event.Connect name write scopes client) =
    connect_acts s scopes.read (act.Connect name (write && scopes.write) scopes client moment)
event_acts s moment (event.SubmitOp id submissions) = submit_acts s moment id submissions
event_acts s moment (event.GetDeltas from to) = asks s (act.Deltas from to)
event_acts s moment (event.GetSummary asked) = asks s (act.Summary asked)
event_acts s moment (event.GetObject id) = asks s (act.GetObject id)
event_acts s moment (event.PutObject bytes) = puts s bytes

-- a text outside the grammar comes before all else
abbrev pub read_acts : VoiceState → ℕ → Read Event → List Act
read_acts s moment (Ok event) = event_acts s moment event
read_acts s moment (Err fault) = nacks s (Unread fault)

-- the acts of a text that is heard at this moment; a connection that has left hears nothing
unfoldable pub acts_of : VoiceState → List ℕ → ℕ → List Act
acts_of s text moment = if is_used s then [] else read_acts s moment (event_spelled text)

-- ---- what of a text is entered, but for a connect's join

-- the entry of an act that enters one
abbrev pub entry_of : Act → List Raw
entry_of (act.Enter raw) = raw ∷ []
entry_of (act.Say reply) = []
entry_of (act.Connect name write scopes detail moment) = []
entry_of (act.Deltas from to) = []
entry_of (act.Summary asked) = []
entry_of (act.GetObject id) = []
entry_of (act.PutObject bytes) = []

abbrev pub entries_in : List Act → List Raw
entries_in [] = []
entries_in (act ∷ acts) = entry_of act ++ entries_in acts

-- the submissions of an event under this id
abbrev pub submitted_under : List ℕ → Read Event → List Submission
submitted_under id (Ok (event.SubmitOp other submissions)) = if bytes_eq other id then submissions else []
submitted_under id (Ok (event.Connect name write scopes client)) = []
submitted_under id (Ok (event.GetDeltas from to)) = []
submitted_under id (Ok (event.GetSummary asked)) = []
submitted_under id (Ok (event.GetObject object)) = []
submitted_under id (Ok (event.PutObject bytes)) = []
submitted_under id (Err fault) = []

-- the submissions that a text spells under this id, in their order
abbrev pub submissions_of : List ℕ → List ℕ → List Submission
submissions_of id text = submitted_under id (event_spelled text)
