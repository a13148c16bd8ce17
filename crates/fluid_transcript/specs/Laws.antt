-- What follows from the definitions.
use Rattle.std.specs.Prelude.{◌≡◌, ◌+◌, ◌≤◌, ℕ, false, List, [], ◌∷◌, ◌++◌, All, length, map, take, drop, Some, None, option_map}
use Rattle.std.specs.List.{flat_map, last_or}
use Rattle.std.specs.FinMap.{FinMap}
use Rattle.fluid_table.specs.Table.{byte_order}
use Rattle.fluid_types.specs.declared.entries.Raw.{Raw}
use Rattle.fluid_types.specs.declared.entries.Raw.TheVariants.{Submit}
use Rattle.fluid_types.specs.declared.entries.Submission.{Submission}
use Rattle.fluid_types.specs.declared.nacks.NackRule.TheVariants.{Full}
use Rattle.fluid_types.specs.declared.verdicts.Verdict.{Verdict}
use Rattle.fluid_types.specs.Ledger.{Ledger, order, seq}
use Rattle.fluid_rules.specs.Rules.{ledger, entries_behind}
use Rattle.fluid_rules.specs.Counted.{room}
use Rattle.fluid_rules.specs.Scribe.{handling}
use Rattle.fluid_rules.specs.ScribeLaws.{summary_acks}
use Rattle.fluid_rules.specs.declared.limits.Limits.{Limits}
use Rattle.fluid_pipe.specs.Meaning.{refusal_words}
use Rattle.fluid_pipe.specs.declared.refusal.Refusal.{Refusal}
use Rattle.fluid_steps.specs.Refusals.{why_text}
use Rattle.fluid_steps.specs.declared.refusal.LineWhy.{LineWhy}
use Rattle.fluid_loader.specs.declared.link.Pick.{Pick}
use Rattle.fluid_codec.specs.declared.replies.Reply.TheVariants.{Nacked}
use Rattle.fluid_store.specs.Held.{Held}
use Rattle.fluid_voice.specs.declared.states.VoiceState.TheVariants.{Writing}
use Rattle.fluid_voice.specs.declared.actions.Act.{Act}
use Rattle.fluid_voice.specs.Heard.{submission_acts}
use Rattle.fluid_voice.specs.Ends.{found_behind}
use Rattle.fluid_voice.specs.Replies.{verdict_replies}
use Rattle.fluid_voice.specs.Refusals.{front_nack}
use Rattle.fluid_transcript.specs.World.{Document, Container, World, first_world, ledger_of, with_entries}
use Rattle.fluid_transcript.specs.Lines.{reply_line}
use Rattle.fluid_transcript.specs.Connections.{Hearing, found_by, hear}
use Rattle.fluid_transcript.specs.Containers.{id_of, channels, head, is_submission_of, last, loaded, loading, joined_for}
use Rattle.fluid_transcript.specs.Sound.{Grows, ChangesOneName, ledger_in, IsSoundContainer, IsSound}
use Rattle.fluid_transcript.specs.Transcript.{text_refusal, taken, behind, lines_of, written, transcript, meaning, why_of, loaded_last}

-- ---- one line more at the end

abbrev pub WorldGrows : Type 0
WorldGrows = (limits : Limits) (w : World) (lines : List (List ℕ)) (line : List ℕ) → behind limits w (lines ++ line ∷ []) ≡ (taken limits (behind limits w lines) line).world

-- what it writes stands behind what those before it write
abbrev pub LinesGrow : Type 0
LinesGrow =
    (limits : Limits) (w : World) (lines : List (List ℕ)) (line : List ℕ)
    → lines_of limits w (lines ++ line ∷ []) ≡ lines_of limits w lines ++ (taken limits (behind limits w lines) line).lines

abbrev pub TranscriptGrows : Type 0
TranscriptGrows =
    (limits : Limits) (w : World) (lines : List (List ℕ)) (line : List ℕ)
    → transcript limits w (lines ++ line ∷ []) ≡ transcript limits w lines ++ written (taken limits (behind limits w lines) line).lines

-- ---- acts one after another

-- what is found behind a hearing is what its acts leave, where nobody else comes between
abbrev pub LeavesWhatActsLeave : Type 0
LeavesWhatActsLeave =
    (limits : Limits) (opened : List (List ℕ)) (c : List ℕ) (d : Document) (h : Hearing) (acts : List Act)
    → found_by limits opened d (hear limits opened c d h acts) ≡ found_behind (found_by limits opened d h) acts

-- ---- a whole text of submissions

-- the raw entries of submissions
abbrev pub raws_of : ℕ → List ℕ → List Submission → List Raw
raws_of moment id submissions = map (λ submission. Submit id submission moment) submissions

-- what a verdict writes, and what a full document does
abbrev pub verdict_lines : (c name : List ℕ) → Verdict → List (List ℕ)
verdict_lines c name v = map (reply_line c) (verdict_replies (Some name) v)

abbrev pub full_reply_line : (c name : List ℕ) → List ℕ
full_reply_line c name = reply_line c (Nacked (Some name) (front_nack Full))

-- of these entries, so many are entered, each with its verdict over all before it, and the others are refused as full
abbrev pub submission_lines : (c name : List ℕ) → Ledger → List Raw → (most : ℕ) → List (List ℕ)
submission_lines c name l raws most =
    flat_map (λ entry. verdict_lines c name entry.1) (entries_behind l (take most raws)) ++ map (λ raw. full_reply_line c name) (drop most raws)

-- a client that writes hears something, behind these entries and lines
abbrev pub writing : (name id : List ℕ) (next : ℕ) → Held → List Raw → List (List ℕ) → Hearing
writing name id next store raws lines = record { entries = raws; store = store; voice = Writing name id next; lines = lines }

-- the ledger of a document with these entries more
abbrev pub ledger_with : Document → List Raw → Ledger
ledger_with d raws = ledger (d.raws ++ raws)

-- behind all submissions of a text as many of them are entered as there is room for
abbrev pub behind_all : Limits → (c : List ℕ) → Document → (name id : List ℕ) (next : ℕ) → Held → List Raw → List (List ℕ) → List Raw → Hearing
behind_all limits c d name id next store before lines raws =
    writing name id next store (before ++ take (room limits.entries (ledger_with d before)) raws)
    (lines ++ submission_lines c name (ledger_with d before) raws (room limits.entries (ledger_with d before)))

-- the acts of a text that are submissions are one row
abbrev pub SubmissionsAreOneRow : Type 0
SubmissionsAreOneRow =
    (limits : Limits) (opened : List (List ℕ)) (c : List ℕ) (d : Document) (name id : List ℕ) (next : ℕ) (store : Held) (moment : ℕ)
    (submissions : List Submission) (before : List Raw) (lines : List (List ℕ))
    → hear limits opened c d (writing name id next store before lines) (submission_acts moment id submissions)
    ≡ behind_all limits c d name id next store before lines (raws_of moment id submissions)

-- ---- worlds

abbrev pub FirstIsSound : Type 0
FirstIsSound = (documents : FinMap byte_order Document) (store : Held) → IsSound (first_world documents store)

-- what a line leaves that isn't refused
pub record Leaves (old new : World) : Type 0 where
  pub grows : Grows old new
  pub one_name : ChangesOneName old new
  pub moment : new.moment ≡ old.moment + 1
  pub sound : IsSound new

abbrev pub LinesLeave : Type 0
LinesLeave = (limits : Limits) (w : World) (line : List ℕ) → IsSound w → text_refusal w line ≡ None → Leaves w (taken limits w line).world

-- the moment of a world is that at first and the lines since then
abbrev pub MomentIsLines : Type 0
MomentIsLines = (limits : Limits) (w : World) (lines : List (List ℕ)) → (behind limits w lines).moment ≡ w.moment + length lines

-- the load of a last container only adds
abbrev pub LastGrows : Type 0
LastGrows = (limits : Limits) (w : World) (name : List ℕ) → Grows w (loaded_last limits w name).world

-- ---- containers

-- what a container has of a ledger it has of one that goes on from it; its last number, where nothing of its client is added
pub record SaysSame (k : Container) (l more : Ledger) : Type 0 where
  pub channels : channels (l ++ more) k ≡ channels l k
  pub head : head (l ++ more) k ≡ head l k
  pub last : All (λ entry. is_submission_of (id_of k) entry.0 ≡ false) more → last (l ++ more) k ≡ last l k

abbrev pub ContainersStay : Type 0
ContainersStay = (k : Container) (l more : Ledger) → k.number ≤ seq l → k.entries ≤ length l → SaysSame k l more

-- behind its load nothing of its client was taken
abbrev pub NothingWasTaken : Type 0
NothingWasTaken =
    (limits : Limits) (w : World) (d : Document) (name : List ℕ) (pick : Pick) (k : Container) → loading limits w d name pick ≡ loaded k
    → last (ledger_of (with_entries (joined_for limits w d) d)) k ≡ 0

-- its head is the handle in the last summaryAck of the messages since the number that it was loaded from
abbrev pub HeadIsSinceBase : Type 0
HeadIsSinceBase =
    (w : World) (k : Container) → IsSoundContainer w k
    → option_map Some (head (ledger_in w k.document) k)
    ≡ option_map (λ m. handling m.contents) (last_or None (summary_acks (drop k.base (take k.number (order (ledger_in w k.document))))))

-- ---- words

-- a refused line is named by its words
abbrev pub WordsAreOne : Type 0
WordsAreOne = (limits : Limits) (w : World) (why : Refusal LineWhy) → why_text (why_of why) ≡ refusal_words (meaning limits w) why
