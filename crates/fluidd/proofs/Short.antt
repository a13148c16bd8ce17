-- How many entries the documents of a script come to: of those that count no more than may be entered, and of the others a bound for
-- each line.
use Rattle.std.proofs.Common.{◌≡◌, ℕ, ◌+◌, ◌≤◌, ◌==◌, Bool, true, false, cond, if◌then◌else◌, List, [], ◌∷◌, ◌++◌, length, map, Option, Some, None, is_some, Result, Ok, Err, bytes_eq, not, arith, refl, sym, subst, ◌∙◌}
use Rattle.std.specs.Prelude.{unwrap_or, option_map, is_ok}
use Rattle.std.specs.Option.{option_to_list}
use Rattle.std.specs.FinMap.{FinMap, get, insert}
use Rattle.std.proofs.lemmas.Bool.{leb-false}
use Rattle.std.proofs.lemmas.List.{length-append, length-map}
use Rattle.std.proofs.lemmas.List.Sums.{sum_by-append, sum_by-cons}
use Rattle.sha1.specs.Sha1.{sha1}
use Rattle.fluid_json.specs.Tree.{Tree, null}
use Rattle.fluid_json.specs.declared.fault.JsonFault.{JsonFault}
use Rattle.fluid_table.specs.Table.{byte_order}
use Rattle.fluid_types.specs.Forms.{Read}
use Rattle.fluid_types.specs.Ledger.{order}
use Rattle.fluid_types.specs.Names.{entry_name}
use Rattle.fluid_types.specs.declared.entries.Raw.{Raw}
use Rattle.fluid_types.specs.declared.entries.Raw.TheVariants.{Leave, Report}
use Rattle.fluid_types.specs.declared.entries.Scopes.{Scopes}
use Rattle.fluid_types.specs.declared.entries.Submission.{Submission}
use Rattle.fluid_types.specs.declared.entries.Offered.TheVariants.{Op, Noop, Summarize}
use Rattle.fluid_types.specs.declared.nacks.NackRule.{NackRule}
use Rattle.fluid_types.specs.declared.nacks.NackRule.TheVariants.{Unread, NotConnected, ForeignClient}
use Rattle.fluid_types.specs.declared.fault.Field.TheVariants as field
use Rattle.fluid_types.specs.declared.fault.What.TheVariants.{NotAllowed}
use Rattle.fluid_types.specs.declared.fault.CodecFault.TheVariants.{BadField}
use Rattle.fluid_tree.specs.Reading.{object_read}
use Rattle.fluid_types.specs.declared.verdicts.Verdict.{Verdict}
use Rattle.fluid_types.specs.declared.verdicts.Verdict.TheVariants.{Sequenced, Nacked, Dropped, Absorbed}
use Rattle.fluid_rules.specs.Rules.{verdict, ledger, joined}
use Rattle.fluid_rules.specs.Counted.{is_counted, counted, is_full, has_too_many_clients}
use Rattle.fluid_rules.specs.declared.limits.Limits.{Limits}
use Rattle.fluid_edits.specs.declared.edit.Edit.{Edit as AnEdit}
use Rattle.fluid_edits.specs.Forms.{contents_of}
use Rattle.fluid_runtime.specs.declared.fault.EditFault.{EditFault}
use Rattle.fluid_scribe.specs.Jobs.{job}
use Rattle.fluid_scribe.specs.declared.job.Job.{Job}
use Rattle.fluid_lane.specs.Laws.{first_silent_in}
use Rattle.fluid_runtime.specs.AppTree.{app_tree}
use Rattle.fluid_store.specs.Listed.{objects}
use Rattle.fluid_store.specs.Putting.{Putting, Clashing, putting}
use Rattle.fluid_codec.specs.Events.{event_spelled}
use Rattle.fluid_codec.specs.declared.events.Event.{Event}
use Rattle.fluid_codec.specs.declared.events.Event.TheVariants as event
use Rattle.fluid_codec.specs.declared.replies.Reply.TheVariants.{Stored}
use Rattle.fluid_steps.specs.Grammar.{step_spelled}
use Rattle.fluid_steps.specs.declared.steps.Step.{Step}
use Rattle.fluid_steps.specs.declared.steps.Step.TheVariants.{Send, Collect, Close, Scribe, Checkpoint, Restart, Reopen, Sweep, Count, Tasks, Load, Pump, Edit, Beat, Show, Roam, Say, Lose, Back, Acked}
use Rattle.fluid_steps.specs.declared.steps.Step.TheVariants as step
use Rattle.fluid_steps.specs.declared.refusal.LineWhy.{LineWhy}
use Rattle.fluid_voice.specs.declared.states.VoiceState.{VoiceState}
use Rattle.fluid_voice.specs.declared.states.VoiceState.TheVariants.{Fresh, Reading, Writing, Used}
use Rattle.fluid_voice.specs.declared.actions.Act.{Act}
use Rattle.fluid_voice.specs.declared.actions.Act.TheVariants as act
use Rattle.fluid_voice.specs.declared.ends.ActEnd.TheVariants.{Entered, FullNow, TooMany, Given}
use Rattle.fluid_voice.specs.declared.refusals.ConnectRefusal.{ConnectRefusal}
use Rattle.fluid_voice.specs.declared.refusals.ConnectRefusal.TheVariants.{AlreadyConnected, ReadMissing, TooManyDocuments}
use Rattle.fluid_voice.specs.Refusals.{refused}
use Rattle.fluid_voice.specs.States as states
use Rattle.fluid_voice.specs.Heard.{acts_of, read_acts, event_acts, submission_acts, submit_acts, nacks, refuses}
use Rattle.fluid_voice.specs.Ends.{join_of, joined_by, connect_end, put_under, is_beyond}
use Rattle.fluid_voice.specs.Ends.Outcome.{ends, clashes}
use Rattle.fluid_transcript.specs.World.{Document, Container, Roamer, World, new_document, document, is_open, ledger_of, raws_added, with_entries, farewells, Effect, grown, changed, says, does}
use Rattle.fluid_transcript.specs.Connections.{Hearing, found_by, behind_act, hear_act, hear, hearing, acts_for, voice_of}
use Rattle.fluid_versions.specs.Versions.{is_found}
use Rattle.fluid_transcript.specs.Documents.{objects_for, scribed_by, reported, swept_by}
use Rattle.fluid_transcript.specs.Containers.{id_of, Submitted, submitting, joining, channels, entry_of, join_for, join_refusal, joined_for, edited_by, app_id, head, summarized_by}
use Rattle.fluid_loader.specs.Submitting.{summarize_tree}
use Rattle.fluid_transcript.specs.Lines.{turned_away_line, full_line, large_line, stored_line}
use Rattle.fluid_transcript.specs.Roamers.{roamed_by, laid_over, said_by, and_others, sending, left, rejoined, back_by, came_back}
use Rattle.fluid_transcript.specs.Steps.{container_of, shown_of, roamer_of, about, on_container, on_roamer, edit_effect, say_effect, effect, beyond}
use Rattle.fluid_transcript.specs.Transcript.{readied, done_in, done_on, at_line, done_as, taken, behind, end_effect, loaded_last}
use Rattle.fluid_transcript.proofs.Sounds.{document_inserted}
use Rattle.fluidd.proofs.Few.{joined_few, counts, counted_is}

-- ---- a document

-- no more of these entries count than may be entered, and there are not more others than so many
pub record IsShort (entries others : ℕ) (rs : List Raw) : Type 0 where
  pub counted : counts rs ≤ entries
  pub few : length rs ≤ counts rs + others

-- the same of what is added
pub record Adds (entries : ℕ) (rs more : List Raw) : Type 0 where
  pub counted : counts rs + counts more ≤ entries
  pub few : length more ≤ counts more + (entries + 1)

-- all that is added counts
pub record AddsCounted (entries : ℕ) (rs more : List Raw) : Type 0 where
  pub counted : counts rs + counts more ≤ entries
  pub few : length more ≤ counts more

counts_append : (rs more : List Raw) → counts (rs ++ more) ≡ counts rs + counts more
counts_append rs more = sum_by-append (λ raw. cond (is_counted raw) 1 0) rs more

counts_cons : (raw : Raw) (rs : List Raw) → counts (raw ∷ rs) ≡ cond (is_counted raw) 1 0 + counts rs
counts_cons raw rs = sum_by-cons (λ r. cond (is_counted r) 1 0) raw rs

module _ (entries : ℕ) where
  weaker : (a b : ℕ) (rs : List Raw) → a ≤ b → IsShort entries a rs → IsShort entries b rs
  weaker a b rs le s = record { counted = s.counted; few = omega (arith, le, s.few) }

  grown_short : (others : ℕ) (rs more : List Raw) → IsShort entries others rs → Adds entries rs more → IsShort entries (others + (entries + 1)) (rs ++ more)
  grown_short others rs more s a = record {
    counted = omega (arith, a.counted, counts_append rs more);
    few = omega (arith, s.few, a.few, counts_append rs more, length-append rs more);
  }

  as_adds : (rs more : List Raw) → AddsCounted entries rs more → Adds entries rs more
  as_adds rs more a = record { counted = a.counted; few = omega (arith, a.few) }

  nothing : (rs : List Raw) → counts rs ≤ entries → AddsCounted entries rs []
  nothing rs h = record { counted = omega (arith, h); few = omega arith }

  one : (rs : List Raw) (raw : Raw) → is_counted raw ≡ true → counts rs + 1 ≤ entries → AddsCounted entries rs (raw ∷ [])
  one rs raw is h =
      let n : counts (raw ∷ []) ≡ 1 = counts_cons raw [] ∙ rw is refl in
      record { counted = omega (arith, h, n); few = omega (arith, n) }

  other : (rs : List Raw) (raw : Raw) → is_counted raw ≡ false → counts rs ≤ entries → Adds entries rs (raw ∷ [])
  other rs raw is h =
      let n : counts (raw ∷ []) ≡ 0 = counts_cons raw [] ∙ rw is refl in
      record { counted = omega (arith, h, n); few = omega (arith, n) }

  -- one that doesn't count, and behind it others that do
  behind_other : (rs : List Raw) (raw : Raw) (more : List Raw) → is_counted raw ≡ false → AddsCounted entries (rs ++ raw ∷ []) more → Adds entries rs (raw ∷ more)
  behind_other rs raw more is a =
      let none : ◌≡◌ {A = ℕ} (cond (is_counted raw) 1 0) 0 = rw is refl in
      let alone : counts (raw ∷ []) ≡ 0 = counts_cons raw [] ∙ rw is refl in
      record {
        counted = omega (arith, a.counted, counts_append rs (raw ∷ []), alone, counts_cons raw more, none);
        few = omega (arith, a.few, counts_cons raw more, none);
      }

  -- behind others that count
  also : (rs first more : List Raw) → AddsCounted entries rs first → AddsCounted entries (rs ++ first) more → AddsCounted entries rs (first ++ more)
  also rs first more a b = record {
    counted = omega (arith, b.counted, counts_append rs first, counts_append first more);
    few = omega (arith, a.few, b.few, counts_append first more, length-append first more);
  }

  room : (rs first : List Raw) → AddsCounted entries rs first → counts (rs ++ first) ≤ entries
  room rs first a = omega (arith, a.counted, counts_append rs first)

  leaves_count : (moment : ℕ) (ids : List (List ℕ)) → counts (map (λ id. Leave id moment) ids) ≡ 0
  leaves_count moment [] = refl
  leaves_count moment (id ∷ ids) = omega (arith, counts_cons (Leave id moment) (map (λ i. Leave i moment) ids), leaves_count moment ids)

  leave : (moment : ℕ) (d : Document) → counts d.raws ≤ entries → Adds entries d.raws (farewells moment d)
  leave moment d h = record {
    counted = omega (arith, h, leaves_count moment (joined (ledger_of d)));
    few = omega (arith, h, length-map (joined (ledger_of d)) (λ id. Leave id moment), joined_few (ledger_of d), counted_is d.raws);
  }

-- ---- what is entered

not_full : (entries : ℕ) (rs : List Raw) (raw : Raw) → is_counted raw ≡ true → is_full entries (ledger rs) raw ≡ false → counts rs + 1 ≤ entries
not_full entries rs raw is full = omega (arith, leb-false entries (counted (ledger rs)) (rw is at full), counted_is rs)

module _ (limits : Limits) (rs : List Raw) (few : counts rs ≤ limits.entries) where
  entered : (raw : Raw) → is_counted raw ≡ true → AddsCounted limits.entries rs (raws_added (ledger rs) (act.Enter raw) (ends (if is_full limits.entries (ledger rs) raw then FullNow else Entered (verdict (ledger rs) raw))))
  entered raw is = by (is_full limits.entries (ledger rs) raw) refl
    where
      by : (b : Bool) → is_full limits.entries (ledger rs) raw ≡ b
          → AddsCounted limits.entries rs (raws_added (ledger rs) (act.Enter raw) (ends (if b then FullNow else Entered (verdict (ledger rs) raw))))
      by true full = nothing limits.entries rs few
      by false full = one limits.entries rs raw is (not_full limits.entries rs raw is full)

  module _ (name : List ℕ) (scopes : Scopes) (detail : Tree) (moment : ℕ) where
    joins : (id : List ℕ) (v : Verdict) → counts rs + 1 ≤ limits.entries
        → AddsCounted limits.entries rs (raws_added (ledger rs) (act.Connect name true scopes detail moment) (ends (joined_by id v)))
    joins id (Sequenced message) h = one limits.entries rs (join_of (ledger rs) scopes detail moment) refl h
    joins id (Nacked nack) h = one limits.entries rs (join_of (ledger rs) scopes detail moment) refl h
    joins id Dropped h = one limits.entries rs (join_of (ledger rs) scopes detail moment) refl h
    joins id Absorbed h = one limits.entries rs (join_of (ledger rs) scopes detail moment) refl h

    connected : (beyond write : Bool) → AddsCounted limits.entries rs (raws_added (ledger rs) (act.Connect name write scopes detail moment)
        (ends (if beyond then Given (refused TooManyDocuments) else connect_end limits (ledger rs) write scopes detail moment)))
    connected true true = nothing limits.entries rs few
    connected true false = nothing limits.entries rs few
    connected false true = by (is_full limits.entries (ledger rs) (join_of (ledger rs) scopes detail moment)) _ refl
      where
        by : (full many : Bool) → is_full limits.entries (ledger rs) (join_of (ledger rs) scopes detail moment) ≡ full
            → AddsCounted limits.entries rs (raws_added (ledger rs) (act.Connect name true scopes detail moment)
            (ends (if full then FullNow else if many then TooMany else joined_by (entry_name (length (ledger rs))) (verdict (ledger rs) (join_of (ledger rs) scopes detail moment)))))
        by true many full = nothing limits.entries rs few
        by false true full = nothing limits.entries rs few
        by false false full = joins _ _ (not_full limits.entries rs (join_of (ledger rs) scopes detail moment) refl full)
    connected false false = nothing limits.entries rs few

-- a container's client joins where there is room for its join
join_room : (limits : Limits) (w : World) (rs : List Raw) → join_refusal (joining limits w (ledger rs)) ≡ None → counts rs + 1 ≤ limits.entries
join_room limits w rs = by (is_full limits.entries (ledger rs) (join_for w (ledger rs))) (has_too_many_clients limits.clients (ledger rs) (join_for w (ledger rs))) refl
  where
    by : (full many : Bool) → is_full limits.entries (ledger rs) (join_for w (ledger rs)) ≡ full
        → join_refusal (if full then FullNow else if many then TooMany else joined_by (entry_name (length (ledger rs))) (verdict (ledger rs) (join_for w (ledger rs)))) ≡ None → counts rs + 1 ≤ limits.entries
    by true many full is = absurd (cc)
    by false many full is = not_full limits.entries rs (join_for w (ledger rs)) refl full

-- ops one after another
both_add : (entries : ℕ) (rs : List Raw) (first others : Submitted) (refused : Option NackRule) → AddsCounted entries rs first.entries → AddsCounted entries (rs ++ first.entries) others.entries
    → AddsCounted entries rs (and_others first others refused).entries
both_add entries rs first others None a b = also entries rs first.entries others.entries a b
both_add entries rs first others (Some rule) a b = a

sending_adds : (limits : Limits) (w : World) (k : Container) (edits : List AnEdit) (d : Document) → counts d.raws ≤ limits.entries → AddsCounted limits.entries d.raws (sending limits w d k edits).entries
unfolding sending
sending_adds limits w k [] d few = nothing limits.entries d.raws few
sending_adds limits w k (edit ∷ others) d few =
    let s = submitting limits w (ledger_of d) k Op (contents_of edit) in
    let first : AddsCounted limits.entries d.raws s.entries = entered limits d.raws few (entry_of w (ledger_of d) k Op (contents_of edit)) refl in
    both_add limits.entries d.raws s (sending limits w (with_entries s.entries d) k others) s.refused first (sending_adds limits w k others (with_entries s.entries d) (room limits.entries d.raws s.entries first))

-- ---- a text

-- what an act enters counts
abbrev pub IsCounting : Act → Type 0
IsCounting (act.Enter raw) = is_counted raw ≡ true
IsCounting (act.Say reply) = Unit {0}
IsCounting (act.Connect name write scopes detail moment) = Unit {0}
IsCounting (act.Deltas from to) = Unit {0}
IsCounting (act.Summary asked) = Unit {0}
IsCounting (act.GetObject id) = Unit {0}
IsCounting (act.PutObject bytes) = Unit {0}

abbrev pub AreCounting : List Act → Type 0
AreCounting [] = Unit {0}
AreCounting (a ∷ acts) = IsCounting a × AreCounting acts

submissions_count : (moment : ℕ) (id : List ℕ) (submissions : List Submission) → AreCounting (submission_acts moment id submissions)
submissions_count moment id [] = tt
submissions_count moment id (s ∷ submissions) = (refl, submissions_count moment id submissions)

module _ (s : VoiceState) (moment : ℕ) where
  submits_count : (id : List ℕ) (submissions : List Submission) → AreCounting (submit_acts s moment id submissions)
  submits_count id submissions = by s
    where
      under : (name own : List ℕ) (next : ℕ) (same : Bool) → AreCounting (if same then submission_acts moment id submissions else nacks (Writing name own next) ForeignClient)
      under name own next true = submissions_count moment id submissions
      under name own next false = (tt, tt)

      by : (s : VoiceState) → AreCounting (submit_acts s moment id submissions)
      by Fresh = (tt, tt)
      by (Reading name next) = (tt, tt)
      by (Writing name own next) = under name own next (bytes_eq id own)
      by Used = (tt, tt)

  connects_count : (connected may_read : Bool) (connect : Act) → IsCounting connect
      → AreCounting (if connected then refuses AlreadyConnected else if not may_read then refuses ReadMissing else connect ∷ [])
  connects_count true may_read connect h = (tt, tt)
  connects_count false true connect h = (h, tt)
  connects_count false false connect h = (tt, tt)

  asks_count : (connected : Bool) (question : Act) → IsCounting question → AreCounting (if connected then question ∷ [] else nacks s NotConnected)
  asks_count true question h = (h, tt)
  asks_count false question h = (tt, tt)

  puts_count : (connected object : Bool) (bytes : List ℕ)
      → AreCounting (if not connected then nacks s NotConnected else if object then act.PutObject bytes ∷ [] else nacks s (Unread (BadField field.Object NotAllowed)))
  puts_count true true bytes = (tt, tt)
  puts_count true false bytes = (tt, tt)
  puts_count false object bytes = (tt, tt)

  events_count : (e : Event) → AreCounting (event_acts s moment e)
  events_count (event.Connect name write scopes client) = connects_count (states.is_connected s) scopes.read _ tt
  events_count (event.SubmitOp id submissions) = submits_count id submissions
  events_count (event.GetDeltas from to) = asks_count (states.is_connected s) _ tt
  events_count (event.GetSummary asked) = asks_count (states.is_connected s) _ tt
  events_count (event.GetObject id) = asks_count (states.is_connected s) _ tt
  events_count (event.PutObject bytes) = puts_count (states.is_connected s) (is_ok (object_read bytes)) bytes

  reads_count : (read : Read Event) → AreCounting (read_acts s moment read)
  reads_count (Ok e) = events_count e
  reads_count (Err fault) = (tt, tt)

  acts_count : (text : List ℕ) → AreCounting (acts_of s text moment)
  unfolding acts_of
  acts_count text = by (states.is_used s)
    where
      by : (used : Bool) → AreCounting (if used then [] else read_acts s moment (event_spelled text))
      by true = tt
      by false = reads_count (event_spelled text)

module _ (limits : Limits) (opened : List (List ℕ)) (c : List ℕ) (d : Document) where
  put_adds : (h : Hearing) (bytes : List ℕ) (held : Option (List ℕ)) → AddsCounted limits.entries d.raws h.entries
      → AddsCounted limits.entries d.raws (behind_act c (found_by limits opened d h) (act.PutObject bytes) h (put_under (sha1 bytes) bytes held)).entries
  put_adds h bytes None a = also limits.entries d.raws h.entries [] a (nothing limits.entries (d.raws ++ h.entries) (room limits.entries d.raws h.entries a))
  put_adds h bytes (Some kept) a = by (bytes_eq kept bytes)
    where
      by : (same : Bool) → AddsCounted limits.entries d.raws
          (behind_act c (found_by limits opened d h) (act.PutObject bytes) h (if same then ends (Given (Stored (sha1 bytes))) else clashes (sha1 bytes) kept bytes)).entries
      by true = also limits.entries d.raws h.entries [] a (nothing limits.entries (d.raws ++ h.entries) (room limits.entries d.raws h.entries a))
      by false = a

  act_adds : (h : Hearing) (a : Act) → IsCounting a → AddsCounted limits.entries d.raws h.entries → AddsCounted limits.entries d.raws (hear_act limits opened c d h a).entries
  act_adds h (act.Say reply) is a = also limits.entries d.raws h.entries [] a (nothing limits.entries (d.raws ++ h.entries) (room limits.entries d.raws h.entries a))
  act_adds h (act.Connect name write scopes detail moment) is a =
      also limits.entries d.raws h.entries _ a (connected limits (d.raws ++ h.entries) (room limits.entries d.raws h.entries a) name scopes detail moment (is_beyond opened name) write)
  act_adds h (act.Enter raw) is a = also limits.entries d.raws h.entries _ a (entered limits (d.raws ++ h.entries) (room limits.entries d.raws h.entries a) raw is)
  act_adds h (act.Deltas from to) is a = also limits.entries d.raws h.entries [] a (nothing limits.entries (d.raws ++ h.entries) (room limits.entries d.raws h.entries a))
  act_adds h (act.Summary asked) is a = also limits.entries d.raws h.entries [] a (nothing limits.entries (d.raws ++ h.entries) (room limits.entries d.raws h.entries a))
  act_adds h (act.GetObject id) is a = also limits.entries d.raws h.entries [] a (nothing limits.entries (d.raws ++ h.entries) (room limits.entries d.raws h.entries a))
  act_adds h (act.PutObject bytes) is a = put_adds h bytes (get h.store (sha1 bytes)) a

  hears_adds : (acts : List Act) (h : Hearing) → AreCounting acts → AddsCounted limits.entries d.raws h.entries
      → AddsCounted limits.entries d.raws (hear limits opened c d h acts).entries
  hears_adds [] h are a = a
  hears_adds (x ∷ acts) h are a = hears_adds acts (hear_act limits opened c d h x) are.1 (act_adds h x are.0 a)

-- ---- a step

module _ (limits : Limits) (w : World) (d : Document) (few : counts d.raws ≤ limits.entries) where
  none : Adds limits.entries d.raws []
  none = as_adds limits.entries d.raws [] (nothing limits.entries d.raws few)

  submitted_adds : (raw : Raw) → is_counted raw ≡ true
      → Adds limits.entries d.raws (raws_added (ledger d.raws) (act.Enter raw) (ends (if is_full limits.entries (ledger d.raws) raw then FullNow else Entered (verdict (ledger d.raws) raw))))
  submitted_adds raw is = as_adds limits.entries d.raws _ (entered limits d.raws few raw is)

  send_adds : (c text : List ℕ) → Adds limits.entries d.raws (effect limits w d (Send c text)).entries
  send_adds c text =
      as_adds limits.entries d.raws _
      (hears_adds limits w.opened c d (acts_for w c text) (hearing w c) (acts_count (voice_of w c) w.moment text) (nothing limits.entries d.raws few))

  close_adds : (id : Option (List ℕ)) → Adds limits.entries d.raws (option_to_list (option_map (λ id. Leave id w.moment) id))
  close_adds None = none
  close_adds (Some id) = other limits.entries d.raws (Leave id w.moment) refl few

  scribe_adds : (name : List ℕ) (o : Option Job) → Adds limits.entries d.raws (scribed_by w (ledger d.raws) name o).entries
  scribe_adds name None = none
  scribe_adds name (Some j) = let put = putting w.store (objects_for (ledger d.raws) (is_found w.store j) j) in by (is_found w.store j) put put.clash
    where
      by : (found : Bool) (p : Putting) (clash : Option Clashing) → Adds limits.entries d.raws (reported w (ledger d.raws) name j found p clash).entries
      by found p None = other limits.entries d.raws (Report j.summary found w.moment) refl few
      by found p (Some clash) = none

  checkpoint_adds : (name : List ℕ) (full large : Bool) (bytes : ℕ)
      → Adds limits.entries d.raws (if full then says w (full_line name ∷ [])
      else if large then says w (large_line name bytes ∷ [])
      else record (says w (stored_line name (length d.checkpoints) (length d.raws) ∷ [])) { checkpoints = length d.raws ∷ [] }).entries
  checkpoint_adds name true large bytes = none
  checkpoint_adds name false true bytes = none
  checkpoint_adds name false false bytes = none

  sweep_adds : (name : List ℕ) (o : Option (List ℕ)) → Adds limits.entries d.raws (swept_by w name o).entries
  sweep_adds name None = none
  sweep_adds name (Some id) = other limits.entries d.raws (Leave id w.moment) refl few

  -- the join of a container's client
  join_adds : Adds limits.entries d.raws (joined_for limits w d)
  join_adds = by (is_full limits.entries (ledger d.raws) (join_for w (ledger d.raws))) (has_too_many_clients limits.clients (ledger d.raws) (join_for w (ledger d.raws))) refl
    where
      whether : (refused : Bool) → counts d.raws + 1 ≤ limits.entries → Adds limits.entries d.raws (if refused then [] else join_for w (ledger d.raws) ∷ [])
      whether true h = none
      whether false h = as_adds limits.entries d.raws _ (one limits.entries d.raws (join_for w (ledger d.raws)) refl h)

      by : (full many : Bool) → is_full limits.entries (ledger d.raws) (join_for w (ledger d.raws)) ≡ full
          → Adds limits.entries d.raws
          (if is_some (join_refusal (if full then FullNow else if many then TooMany
          else joined_by (entry_name (length (ledger d.raws))) (verdict (ledger d.raws) (join_for w (ledger d.raws))))) then [] else join_for w (ledger d.raws) ∷ [])
      by true many full = none
      by false many full = whether _ (not_full limits.entries d.raws (join_for w (ledger d.raws)) refl full)

  contained : (o : Option Container) (does : Container → Effect) → ((k : Container) → Adds limits.entries d.raws (does k).entries) → Adds limits.entries d.raws (on_container w o does).entries
  contained None does h = none
  contained (Some k) does h = h k

  edit_adds : (p : List ℕ) (k : Container) (edit : AnEdit) (said : Result Tree EditFault) → Adds limits.entries d.raws (edited_by limits w (ledger d.raws) p k edit said).entries
  edit_adds p k edit (Err fault) = none
  edit_adds p k edit (Ok contents) = submitted_adds (entry_of w (ledger d.raws) k Op contents) refl

  edits_add : (p : List ℕ) (op : Result AnEdit JsonFault) (k : Container) → Adds limits.entries d.raws (edit_effect limits w d p op k).entries
  edits_add p (Ok edit) k = edit_adds p k edit _
  edits_add p (Err fault) k = none

  summary_adds : (p : List ℕ) (k : Container) (put : Putting) (clash : Option Clashing) → Adds limits.entries d.raws (summarized_by limits w (ledger d.raws) p k put clash).entries
  summary_adds p k put None =
      submitted_adds (entry_of w (ledger d.raws) k Summarize (summarize_tree (app_id (channels (ledger d.raws) k)) (head (ledger d.raws) k) k.number)) refl
  summary_adds p k put (Some clash) = none

  roaming : (o : Option Roamer) (does : Roamer → Effect) → ((k : Roamer) → Adds limits.entries d.raws (does k).entries) → Adds limits.entries d.raws (on_roamer w o does).entries
  roaming None does h = none
  roaming (Some k) does h = h k

  roam_adds : (r name : List ℕ) (refusal : Option ConnectRefusal) → join_refusal (joining limits w (ledger d.raws)) ≡ refusal → Adds limits.entries d.raws (roamed_by w d r name refusal).entries
  roam_adds r name (Some refusal) is = none
  roam_adds r name None is = as_adds limits.entries d.raws _ (one limits.entries d.raws (join_for w (ledger d.raws)) refl (join_room limits w d.raws is))

  laid_adds : (r : List ℕ) (k : Roamer) (edit : AnEdit) (contents : Tree) (is_lost : Bool) → Adds limits.entries d.raws (laid_over limits w (ledger d.raws) r k edit contents is_lost).entries
  laid_adds r k edit contents true = none
  laid_adds r k edit contents false = submitted_adds (entry_of w (ledger d.raws) k.client Op contents) refl

  said_adds : (r : List ℕ) (k : Roamer) (edit : AnEdit) (said : Result Tree EditFault) → Adds limits.entries d.raws (said_by limits w (ledger d.raws) r k edit said).entries
  said_adds r k edit (Err fault) = none
  said_adds r k edit (Ok contents) = laid_adds r k edit contents k.is_lost

  says_add : (r : List ℕ) (op : Result AnEdit JsonFault) (k : Roamer) → Adds limits.entries d.raws (say_effect limits w d r op k).entries
  says_add r (Ok edit) k = said_adds r k edit _
  says_add r (Err fault) k = none

  -- a leave, and behind it a join and the ops of what doesn't stand
  back_adds : (r : List ℕ) (k : Roamer) → Adds limits.entries d.raws (came_back limits w d r k).entries
  back_adds r k = by (join_refusal (joining limits w (ledger_of (left w d k)))) refl
    where
      by : (refusal : Option ConnectRefusal) → join_refusal (joining limits w (ledger_of (left w d k))) ≡ refusal → Adds limits.entries d.raws (back_by limits w (left w d k) r k (Leave (id_of k.client) w.moment) refusal).entries
      by (Some refusal) is = other limits.entries d.raws (Leave (id_of k.client) w.moment) refl few
      by None is =
          let join = join_for w (ledger_of (left w d k)) in
          let joined : AddsCounted limits.entries (left w d k).raws (join ∷ []) = one limits.entries (left w d k).raws join refl (join_room limits w (left w d k).raws is) in
          let again = rejoined w (left w d k) k in
          behind_other limits.entries d.raws (Leave (id_of k.client) w.moment) _ refl
          (also limits.entries (left w d k).raws (join ∷ []) (sending limits w (with_entries (join ∷ []) (left w d k)) again.client again.client.pending).entries joined
          (sending_adds limits w again.client again.client.pending (with_entries (join ∷ []) (left w d k)) (room limits.entries (left w d k).raws (join ∷ []) joined)))

  step_adds : (step : Step) → Adds limits.entries d.raws (effect limits w d step).entries
  step_adds (Send c text) = send_adds c text
  step_adds (Collect c) = none
  step_adds (Close c) = close_adds (states.client_id (voice_of w c))
  step_adds (Scribe name) = scribe_adds name (job (order (ledger d.raws)))
  step_adds (Checkpoint name) = checkpoint_adds name _ _ _
  step_adds (Restart name checkpoint) = none
  step_adds (Reopen name) = leave limits.entries w.moment d few
  step_adds (Sweep name silence) = sweep_adds name (first_silent_in w.moment silence (ledger d.raws))
  step_adds (Count name) = none
  step_adds (Tasks name) = none
  step_adds (Load p name pick) = join_adds
  step_adds (Pump p) = contained (container_of w p) _ (λ k. none)
  step_adds (Edit p op) = contained (container_of w p) _ (λ k. edits_add p op k)
  step_adds (Beat p) = contained (container_of w p) _ (λ k. submitted_adds (entry_of w (ledger d.raws) k Noop null) refl)
  step_adds (step.Summarize p) = contained (container_of w p) _ (λ k. let put = putting w.store (objects (app_tree (channels (ledger d.raws) k))) in summary_adds p k put put.clash)
  step_adds (Show p) = contained (shown_of w p) _ (λ k. none)
  step_adds (Roam r name) = roam_adds r name (join_refusal (joining limits w (ledger d.raws))) refl
  step_adds (Say r op) = roaming (roamer_of w r) _ (λ k. says_add r op k)
  step_adds (Lose r) = roaming (roamer_of w r) _ (λ k. none)
  step_adds (Back r) = roaming (roamer_of w r) _ (λ k. back_adds r k)
  step_adds (Acked r) = roaming (roamer_of w r) _ (λ k. none)

-- ---- worlds

-- each document is short
abbrev pub AreShort : (entries others : ℕ) → World → Type 0
AreShort entries others w = (name : List ℕ) → IsShort entries others (document w name).raws

module _ (entries : ℕ) where
  pub all_weaker : (a b : ℕ) (w : World) → a ≤ b → AreShort entries a w → AreShort entries b w
  all_weaker a b w le h = λ name. weaker entries a b (document w name).raws le (h name)

  inserted : (others : ℕ) (documents : FinMap byte_order Document) (name : List ℕ) (new : Document)
      → ((q : List ℕ) → IsShort entries others (unwrap_or (get documents q) new_document).raws) → IsShort entries others new.raws
      → (q : List ℕ) → IsShort entries others (unwrap_or (get (insert documents name new) q) new_document).raws
  inserted others documents name new before own q = subst (λ (d : Document). IsShort entries others d.raws) (sym (document_inserted documents name new q)) (by (bytes_eq q name))
    where
      by : (b : Bool) → IsShort entries others (cond b new (unwrap_or (get documents q) new_document)).raws
      by true = own
      by false = before q

  -- a step of this document
  changed_short : (others : ℕ) (w : World) (name : List ℕ) (e : Effect) → AreShort entries others w → Adds entries (document w name).raws e.entries
      → AreShort entries (others + (entries + 1)) (changed e (Some name) w)
  changed_short others w name e before adds =
      inserted (others + (entries + 1)) w.documents name (grown e (document w name))
      (all_weaker others (others + (entries + 1)) w (omega arith) before)
      (grown_short entries others (document w name).raws e.entries (before name) adds)

  readied_short : (others : ℕ) (w : World) (name : List ℕ) → AreShort entries others w → AreShort entries (others + (entries + 1)) (readied w name)
  readied_short others w name before = by (is_open w name)
    where
      by : (b : Bool) → AreShort entries (others + (entries + 1)) (if b then w else record w {
        documents = insert w.documents name (with_entries (farewells w.moment (document w name)) (document w name));
        opened = w.opened ++ name ∷ [];
      })
      by true = all_weaker others (others + (entries + 1)) w (omega arith) before
      by false =
          inserted (others + (entries + 1)) w.documents name (with_entries (farewells w.moment (document w name)) (document w name))
          (all_weaker others (others + (entries + 1)) w (omega arith) before)
          (grown_short entries others (document w name).raws (farewells w.moment (document w name)) (before name) (leave entries w.moment (document w name) (before name).counted))

module _ (limits : Limits) where
  in_place : (others : ℕ) (w : World) (name : List ℕ) (e : World → Effect) → AreShort limits.entries others w
      → ((r : World) → counts (document r name).raws ≤ limits.entries → Adds limits.entries (document r name).raws (e r).entries)
      → AreShort limits.entries (others + (limits.entries + 1) + (limits.entries + 1)) (changed (e (readied w name)) (Some name) (readied w name))
  in_place others w name e before adds =
      let r = readied w name in
      let short : AreShort limits.entries (others + (limits.entries + 1)) r = readied_short limits.entries others w name before in
      changed_short limits.entries (others + (limits.entries + 1)) r name (e r) short (adds r (short name).counted)

  done_short : (others : ℕ) (w : World) (step : Step) (about : Option (List ℕ)) → AreShort limits.entries others w
      → AreShort limits.entries (others + (limits.entries + 1) + (limits.entries + 1)) (done_on limits w about step).world
  done_short others w step None before = all_weaker limits.entries others _ w (omega arith) before
  done_short others w step (Some name) before = by (is_beyond w.opened name)
    where
      by : (full : Bool) → AreShort limits.entries (others + (limits.entries + 1) + (limits.entries + 1))
          (if full then does (beyond limits w name step) None w else done_in limits (readied w name) name step).world
      by true = all_weaker limits.entries others _ w (omega arith) before
      by false = in_place others w name (λ r. effect limits r (document r name) step) before (λ r few. step_adds limits r (document r name) few step)

  as_short : (others : ℕ) (w : World) (step : Result Step LineWhy) → AreShort limits.entries others w
      → AreShort limits.entries (others + (limits.entries + 1) + (limits.entries + 1)) (done_as limits w step).world
  as_short others w (Ok step) before = done_short others w step (about w step) before
  as_short others w (Err why) before = all_weaker limits.entries others _ w (omega arith) before

  taken_short : (others : ℕ) (w : World) (line : List ℕ) → AreShort limits.entries others w
      → AreShort limits.entries (others + (limits.entries + 1) + (limits.entries + 1)) (taken limits w line).world
  taken_short others w line before = by (length line == 0)
    where
      by : (empty : Bool) → AreShort limits.entries (others + (limits.entries + 1) + (limits.entries + 1))
          (if empty then (record { world = at_line w; lines = [] }) else done_as limits (at_line w) (step_spelled line)).world
      by true = all_weaker limits.entries others _ w (omega arith) before
      by false = as_short others (at_line w) (step_spelled line) before

  -- behind lines
  abbrev pub slack : ℕ → List (List ℕ) → ℕ
  slack others [] = others
  slack others (line ∷ lines) = slack (others + (limits.entries + 1) + (limits.entries + 1)) lines

  pub behind_short : (others : ℕ) (w : World) (lines : List (List ℕ)) → AreShort limits.entries others w → AreShort limits.entries (slack others lines) (behind limits w lines)
  behind_short others w [] before = before
  behind_short others w (line ∷ lines) before = behind_short (others + (limits.entries + 1) + (limits.entries + 1)) (taken limits w line).world lines (taken_short others w line before)

  pub last_short : (others : ℕ) (w : World) (name : List ℕ) → AreShort limits.entries others w
      → AreShort limits.entries (others + (limits.entries + 1) + (limits.entries + 1)) (loaded_last limits w name).world
  last_short others w name before = by (is_beyond (at_line w).opened name)
    where
      by : (full : Bool) → AreShort limits.entries (others + (limits.entries + 1) + (limits.entries + 1))
          (if full then does (says (at_line w) (turned_away_line name TooManyDocuments ∷ [])) None (at_line w)
          else does (end_effect limits (readied (at_line w) name) name) (Some name) (readied (at_line w) name)).world
      by true = all_weaker limits.entries others _ w (omega arith) before
      by false = in_place others (at_line w) name (λ r. end_effect limits r name) before (λ r few. join_adds limits r (document r name) few)
