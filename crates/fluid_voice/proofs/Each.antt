-- What holds of each act of a text.
use Rattle.std.proofs.Common.{◌≡◌, ℕ, ℤ, ◌&&◌, Bool, true, false, List, [], ◌∷◌, All, Ok, Err, if◌then◌else◌, is_ok, not, bytes_eq, refl}
use Rattle.std.proofs.lemmas.List.Elements.{All-nil, All-cons, All-map}
use Rattle.fluid_json.specs.Tree.{Tree}
use Rattle.fluid_types.specs.Forms.{Read}
use Rattle.fluid_types.specs.declared.entries.Scopes.{Scopes}
use Rattle.fluid_types.specs.declared.entries.Submission.{Submission}
use Rattle.fluid_types.specs.declared.entries.Raw.TheVariants.{Submit}
use Rattle.fluid_types.specs.declared.nacks.NackRule.{NackRule}
use Rattle.fluid_tree.specs.Reading.{object_read}
use Rattle.fluid_codec.specs.Events.{event_spelled}
use Rattle.fluid_codec.specs.declared.events.Asked.{Asked}
use Rattle.fluid_codec.specs.declared.events.Event.{Event}
use Rattle.fluid_codec.specs.declared.events.Event.TheVariants as event
use Rattle.fluid_codec.specs.declared.replies.Reply.TheVariants.{Nacked}
use Rattle.fluid_voice.specs.declared.refusals.ConnectRefusal.{ConnectRefusal}
use Rattle.fluid_voice.specs.declared.refusals.ConnectRefusal.TheVariants.{AlreadyConnected, ReadMissing}
use Rattle.fluid_voice.specs.declared.states.VoiceState.{VoiceState}
use Rattle.fluid_voice.specs.declared.states.VoiceState.TheVariants.{Fresh, Reading, Writing, Used}
use Rattle.fluid_voice.specs.declared.actions.Act.{Act}
use Rattle.fluid_voice.specs.declared.actions.Act.TheVariants as act
use Rattle.fluid_voice.specs.States.{document_name, is_connected, is_used}
use Rattle.fluid_voice.specs.Refusals.{refused, front_nack}
use Rattle.fluid_voice.specs.Heard.{connect_acts, submit_acts, asks, puts, event_acts, read_acts, acts_of}

-- of each act that a text may have
pub record Holds (P : Act → Type 0) (s : VoiceState) (text : List ℕ) (moment : ℕ) : Type 0 where
  pub nack : (rule : NackRule) → P (act.Say (Nacked (document_name s) (front_nack rule)))
  pub refusal : (refusal : ConnectRefusal) → P (act.Say (refused refusal))
  pub connect :
      (name : List ℕ) (write : Bool) (scopes : Scopes) (client : Tree) → event_spelled text ≡ Ok (event.Connect name write scopes client)
      → is_connected s ≡ false → P (act.Connect name (write && scopes.write) scopes client moment)
  pub submit :
      (id : List ℕ) (submissions : List Submission) → event_spelled text ≡ Ok (event.SubmitOp id submissions)
      → All (λ submission. P (act.Enter (Submit id submission moment))) submissions
  pub deltas : (from to : ℤ) → P (act.Deltas from to)
  pub summary : (asked : Asked) → P (act.Summary asked)
  pub get : (id : List ℕ) → P (act.GetObject id)
  pub put : (bytes : List ℕ) → P (act.PutObject bytes)

-- either of two lists
choice : (P : Act → Type 0) (b : Bool) (xs ys : List Act) → (b ≡ true → All P xs) → (b ≡ false → All P ys) → All P (if b then xs else ys)
choice P true xs ys h k = h refl
choice P false xs ys h k = k refl

one : (P : Act → Type 0) (a : Act) → P a → All P (a ∷ [])
one P a h = All-cons P a [] h (All-nil P)

module _ (P : Act → Type 0) (s : VoiceState) (text : List ℕ) (moment : ℕ) (holds : Holds P s text moment) where
  connected : (may_read : Bool) (connect : Act) → (is_connected s ≡ false → P connect) → All P (connect_acts s may_read connect)
  connected may_read connect h =
      choice P (is_connected s) _ _ (λ yes. one P _ (holds.refusal AlreadyConnected))
      (λ not_yet. choice P (not may_read) _ _ (λ missing. one P _ (holds.refusal ReadMissing)) (λ may. one P connect (h not_yet)))

  asked : (question : Act) → P question → All P (asks s question)
  asked question h = choice P (is_connected s) _ _ (λ yes. one P question h) (λ not_yet. one P _ (holds.nack _))

  put : (bytes : List ℕ) → All P (puts s bytes)
  put bytes =
      choice P (not (is_connected s)) _ _ (λ not_yet. one P _ (holds.nack _))
      (λ yes. choice P (is_ok (object_read bytes)) _ _ (λ whole. one P _ (holds.put bytes)) (λ broken. one P _ (holds.nack _)))

submitted : (P : Act → Type 0) (s : VoiceState) (text : List ℕ) (moment : ℕ) → Holds P s text moment
    → (id : List ℕ) (submissions : List Submission) → event_spelled text ≡ Ok (event.SubmitOp id submissions) → All P (submit_acts s moment id submissions)
submitted P Fresh text moment holds id submissions h = one P _ (holds.nack _)
submitted P (Reading name next) text moment holds id submissions h = one P _ (holds.nack _)
submitted P (Writing name own next) text moment holds id submissions h =
    choice P (bytes_eq id own) _ _ (λ same. All-map P (λ submission. act.Enter (Submit id submission moment)) submissions (holds.submit id submissions h))
    (λ foreign. one P _ (holds.nack _))
submitted P Used text moment holds id submissions h = one P _ (holds.nack _)

of_event : (P : Act → Type 0) (s : VoiceState) (text : List ℕ) (moment : ℕ) → Holds P s text moment → (e : Event) → event_spelled text ≡ Ok e
    → All P (event_acts s moment e)
of_event P s text moment holds (event.Connect name write scopes client) h =
    connected P s text moment holds scopes.read _ (holds.connect name write scopes client h)
of_event P s text moment holds (event.SubmitOp id submissions) h = submitted P s text moment holds id submissions h
of_event P s text moment holds (event.GetDeltas from to) h = asked P s text moment holds _ (holds.deltas from to)
of_event P s text moment holds (event.GetSummary pick) h = asked P s text moment holds _ (holds.summary pick)
of_event P s text moment holds (event.GetObject id) h = asked P s text moment holds _ (holds.get id)
of_event P s text moment holds (event.PutObject bytes) h = put P s text moment holds bytes

of_read : (P : Act → Type 0) (s : VoiceState) (text : List ℕ) (moment : ℕ) → Holds P s text moment → (read : Read Event) → event_spelled text ≡ read
    → All P (read_acts s moment read)
of_read P s text moment holds (Ok e) h = of_event P s text moment holds e h
of_read P s text moment holds (Err fault) h = one P _ (holds.nack _)

pub each : (P : Act → Type 0) (s : VoiceState) (text : List ℕ) (moment : ℕ) → Holds P s text moment → All P (acts_of s text moment)
unfolding acts_of
each P s text moment holds =
    choice P (is_used s) [] _ (λ used. All-nil P) (λ hears. of_read P s text moment holds (event_spelled text) refl)
