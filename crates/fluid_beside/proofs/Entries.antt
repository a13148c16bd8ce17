-- What a step adds to a document isn't made by the client of another name's container.
use Rattle.std.proofs.Common.{◌≡◌, ℕ, ◌+◌, ◌≤◌, ◌<◌, ◌^◌, arith, nat_le, nat_lt, Bool, true, false, if◌then◌else◌, List, [], ◌∷◌, ◌++◌, map, length, All, Option, Some, None, is_some, Result, Ok, Err, bytes_eq, refl, sym, ap, subst, ◌∙◌, length-append}
use Rattle.std.specs.Prelude.{slice_get, option_and_then}
use Rattle.std.specs.List.{filter_map, cons_option}
use Rattle.std.specs.Option.{option_or, option_map, option_to_list}
use Rattle.std.specs.FinMap.{get}
use Rattle.std.proofs.lemmas.List.Elements.{All-nil, All-cons, All-head, All-tail, All-append, All-map, All-same}
use Rattle.std.proofs.lemmas.Slice.Eq.{bytes_eq-Decides}
use Rattle.fluid_json.specs.Tree.{Tree, null}
use Rattle.fluid_json.specs.declared.fault.JsonFault.{JsonFault}
use Rattle.fluid_edits.specs.declared.edit.Edit.{Edit as AnEdit}
use Rattle.fluid_edits.specs.Forms.{contents_of}
use Rattle.fluid_types.specs.Ledger.{Ledger, order}
use Rattle.fluid_types.specs.Names.{entry_name}
use Rattle.fluid_types.specs.declared.entries.Offered.{Offered}
use Rattle.fluid_types.specs.declared.entries.Offered.TheVariants.{Op, Noop, Summarize as Summary}
use Rattle.fluid_types.specs.declared.entries.Raw.{Raw}
use Rattle.fluid_types.specs.declared.entries.Raw.TheVariants.{Leave, Submit}
use Rattle.fluid_types.specs.declared.entries.Scopes.{Scopes}
use Rattle.fluid_types.specs.declared.entries.Submission.{Submission}
use Rattle.fluid_types.specs.declared.nacks.NackRule.{NackRule}
use Rattle.fluid_rules.specs.Rules.{joined}
use Rattle.fluid_rules.specs.declared.limits.Limits.{Limits}
use Rattle.fluid_runtime.specs.AppTree.{app_tree}
use Rattle.fluid_runtime.specs.Refused.{answer}
use Rattle.fluid_runtime.specs.declared.fault.EditFault.{EditFault}
use Rattle.fluid_scribe.specs.Jobs.{job}
use Rattle.fluid_scribe.specs.declared.job.Job.{Job}
use Rattle.fluid_store.specs.Putting.{Putting, Clashing, putting}
use Rattle.fluid_store.specs.Listed.{objects}
use Rattle.fluid_lane.specs.Laws.{first_silent_in}
use Rattle.fluid_steps.specs.declared.steps.Step.{Step}
use Rattle.fluid_steps.specs.declared.steps.Step.TheVariants.{Send, Collect, Close, Scribe, Checkpoint, Restart, Reopen, Sweep, Count, Tasks, Load, Pump, Edit, Beat, Summarize, Show, Roam, Say, Lose, Back, Acked}
use Rattle.fluid_voice.specs.declared.states.VoiceState.{VoiceState}
use Rattle.fluid_voice.specs.declared.states.VoiceState.TheVariants.{Fresh, Reading, Writing, Used}
use Rattle.fluid_voice.specs.declared.actions.Act.{Act}
use Rattle.fluid_voice.specs.declared.actions.Act.TheVariants as act
use Rattle.fluid_voice.specs.declared.ends.ActEnd.{ActEnd}
use Rattle.fluid_voice.specs.declared.ends.ActEnd.TheVariants.{Said, Joined, Told, Entered, FullNow, TooMany, Given}
use Rattle.fluid_voice.specs.declared.refusals.ConnectRefusal.{ConnectRefusal}
use Rattle.fluid_voice.specs.Ends.{Outcome, outcome, join_of, entry_end}
use Rattle.fluid_voice.specs.Ends.Outcome.{ends, clashes}
use Rattle.fluid_voice.specs.Heard.{acts_of, entry_of, entries_in, submissions_of}
use Rattle.fluid_voice.specs.Laws.{entries_under}
use Rattle.fluid_voice.specs.States as states
use Rattle.fluid_voice.proofs.Each.{each}
use Rattle.fluid_voice.proofs.Entering.{writers_enter}
use Rattle.fluid_transcript.specs.World.{Document, Container, Roamer, Name, connection, container, roamer, used_up, World, document, ledger_of, with_entries, raws_added, Effect, says}
use Rattle.fluid_transcript.specs.Connections.{Hearing, found_by, behind_act, hear_act, hear, hearing, acts_for, connects, voice_named, voice_of, sent, sent_to}
use Rattle.fluid_transcript.specs.Containers.{id_of, channels, visible, Submitted, submission_of, submitting, edited_by, summarized_by, all_scopes, join_for, joining, join_refusal}
use Rattle.fluid_transcript.specs.Roamers.{roamed_by, laid_over, said_by, and_others, sending, left, rejoined, back_by, came_back}
use Rattle.fluid_versions.specs.Versions.{is_found}
use Rattle.fluid_transcript.specs.Documents.{scribed_by, reported, objects_for, checkpoint_of, swept_by}
use Rattle.fluid_transcript.specs.Lines.{stored_line, full_line, large_line}
use Rattle.fluid_transcript.specs.Sound.{client_in, IsSoundContainer, IsSound}
use Rattle.fluid_transcript.specs.Steps.{container_in, container_of, roamer_in, roamer_of, shown_of, container_document, roamer_document, refusal_to_send, refusal, about, on_container, on_roamer, edit_effect, say_effect, effect}
use Rattle.fluid_transcript.proofs.Fitting.{length_ledger}
use Rattle.fluid_transcript.proofs.Sounds.{one_place}
use Rattle.fluid_holding.specs.Holding.{is_made_by}
use Rattle.fluid_beside.specs.Beside.{own_name, IsOther}

-- ---- lists

All-first : {X : Type 0} (P : X → Type 0) (xs ys : List X) → All P (xs ++ ys) → All P xs
All-first P [] ys h = All-nil P
All-first P (x ∷ xs) ys h = All-cons P x xs (All-head P x (xs ++ ys) h) (All-first P xs ys (All-tail P x (xs ++ ys) h))

All-second : {X : Type 0} (P : X → Type 0) (xs ys : List X) → All P (xs ++ ys) → All P ys
All-second P [] ys h = h
All-second P (x ∷ xs) ys h = All-second P xs ys (All-tail P x (xs ++ ys) h)

two_at_once : {A : Type 0} (b : Bool) → b ≡ true → b ≡ false → A
two_at_once b h k = cc

-- ---- one client

module _ (own : List ℕ) where
  abbrev pub Beside : Raw → Type 0
  Beside raw = is_made_by own raw ≡ false

  one : (raw : Raw) → Beside raw → All Beside (raw ∷ [])
  one raw h = All-cons Beside raw [] h (All-nil Beside)

  none : All Beside []
  none = All-nil Beside

  -- ---- hearing

  -- an act adds the join that it makes, or its entry, or nothing
  adds : (l : Ledger) (a : Act) (end : ActEnd) → ((scopes : Scopes) (detail : Tree) (moment : ℕ) → length (raws_added l a (ends end)) ≡ 1 → Beside (join_of l scopes detail moment))
      → All Beside (entry_of a) → All Beside (raws_added l a (ends end))
  adds l (act.Say reply) end joins enters = none
  adds l (act.Connect name write scopes detail moment) (Joined id number) joins enters = one _ (joins scopes detail moment refl)
  adds l (act.Connect name write scopes detail moment) (Entered v) joins enters = one _ (joins scopes detail moment refl)
  adds l (act.Connect name write scopes detail moment) Said joins enters = none
  adds l (act.Connect name write scopes detail moment) (Told last) joins enters = none
  adds l (act.Connect name write scopes detail moment) FullNow joins enters = none
  adds l (act.Connect name write scopes detail moment) TooMany joins enters = none
  adds l (act.Connect name write scopes detail moment) (Given reply) joins enters = none
  adds l (act.Enter raw) (Entered v) joins enters = enters
  adds l (act.Enter raw) (Joined id number) joins enters = none
  adds l (act.Enter raw) Said joins enters = none
  adds l (act.Enter raw) (Told last) joins enters = none
  adds l (act.Enter raw) FullNow joins enters = none
  adds l (act.Enter raw) TooMany joins enters = none
  adds l (act.Enter raw) (Given reply) joins enters = none
  adds l (act.Deltas from to) end joins enters = none
  adds l (act.Summary asked) end joins enters = none
  adds l (act.GetObject id) end joins enters = none
  adds l (act.PutObject bytes) end joins enters = none

  -- an entry's own id is another's, where the entry is a later one
  join_beside : (place : ℕ) → own ≡ entry_name place → (l : Ledger) → place < length l → length l < 2 ^ 64 → (scopes : Scopes) (detail : Tree) (moment : ℕ)
      → Beside (join_of l scopes detail moment)
  join_beside place is l below fits scopes detail moment = by (bytes_eq (entry_name (length l)) own) refl
    where
      by : (b : Bool) → bytes_eq (entry_name (length l)) own ≡ b → b ≡ false
      by true same =
          let names = (bytes_eq-Decides (entry_name (length l)) own).0 same ∙ is in
          absurd (omega (arith, one_place (length l) place fits (omega (arith, below, fits)) names, below))
      by false other = refl

  module _ (limits : Limits) (opened : List (List ℕ)) (c : List ℕ) (d : Document) (place : ℕ) (is : own ≡ entry_name place) (below : place < length d.raws) where
    longer_act : (h : Hearing) (a : Act) (o : Outcome) → length h.entries ≤ length (behind_act c (found_by limits opened d h) a h o).entries
    longer_act h a (ends end) = omega (arith, length-append h.entries (raws_added (found_by limits opened d h).ledger a (ends end)))
    longer_act h a (clashes id kept new) = omega arith

    longer : (h : Hearing) (acts : List Act) → length h.entries ≤ length (hear limits opened c d h acts).entries
    longer h [] = omega arith
    longer h (a ∷ acts) = omega (arith, longer_act h a (outcome (found_by limits opened d h) a), longer (hear_act limits opened c d h a) acts)

    act_beside : (h : Hearing) (a : Act) (o : Outcome) → length d.raws + length (behind_act c (found_by limits opened d h) a h o).entries ≤ 2 ^ 64
        → All Beside h.entries → All Beside (entry_of a) → All Beside (behind_act c (found_by limits opened d h) a h o).entries
    act_beside h a (clashes id kept new) fits so enters = so
    act_beside h a (ends end) fits so enters =
        let l = (found_by limits opened d h).ledger in
        let long = length_ledger (d.raws ++ h.entries) ∙ length-append d.raws h.entries in
        All-append Beside h.entries (raws_added l a (ends end)) so (adds l a end
        (λ scopes detail moment added.
        join_beside place is l (omega (arith, long, below)) (omega (arith, long, fits, length-append h.entries (raws_added l a (ends end)), added)) scopes detail moment) enters)

    pub hear_beside : (h : Hearing) (acts : List Act) → length d.raws + length (hear limits opened c d h acts).entries ≤ 2 ^ 64
        → All Beside h.entries → All Beside (entries_in acts) → All Beside (hear limits opened c d h acts).entries
    hear_beside h [] fits so enter = so
    hear_beside h (a ∷ acts) fits so enter =
        hear_beside (hear_act limits opened c d h a) acts fits
        (act_beside h a (outcome (found_by limits opened d h) a) (omega (arith, fits, longer (hear_act limits opened c d h a) acts)) so (All-first Beside (entry_of a) (entries_in acts) enter))
        (All-second Beside (entry_of a) (entries_in acts) enter)

  -- ---- submissions of one client

  under : (id : List ℕ) → bytes_eq id own ≡ false → (submissions : List Submission) (moment : ℕ) → All Beside (map (λ s. Submit id s moment) submissions)
  under id other submissions moment = All-map Beside (λ s. Submit id s moment) submissions (λ k x lt. other)

  submits : (l : Ledger) (raw : Raw) (end : ActEnd) → Beside raw → All Beside (raws_added l (act.Enter raw) (ends end))
  submits l raw (Entered v) h = one raw h
  submits l raw (Joined id number) h = none
  submits l raw Said h = none
  submits l raw (Told last) h = none
  submits l raw FullNow h = none
  submits l raw TooMany h = none
  submits l raw (Given reply) h = none

-- ---- which document a text reaches

-- a connected one isn't connected again
no_connect : (s : VoiceState) (text : List ℕ) (moment : ℕ) → states.is_connected s ≡ true → All (λ a. connects a ≡ None) (acts_of s text moment)
no_connect s text moment connected = each (λ a. connects a ≡ None) s text moment (record {
  nack = λ rule. refl;
  refusal = λ refusal. refl;
  connect = λ name write scopes client spelled not_yet. two_at_once _ connected not_yet;
  submit = λ id submissions spelled k d lt. refl;
  deltas = λ from to. refl;
  summary = λ asked. refl;
  get = λ id. refl;
  put = λ bytes. refl;
})

none_connects : (acts : List Act) → All (λ a. connects a ≡ None) acts → filter_map connects acts ≡ []
none_connects [] h = refl
none_connects (a ∷ acts) h =
    ap (λ o. cons_option o (filter_map connects acts)) (All-head (λ a. connects a ≡ None) a acts h) ∙ none_connects acts (All-tail (λ a. connects a ≡ None) a acts h)

same_some : (a b : List ℕ) → ◌≡◌ {A = Option (List ℕ)} (Some a) (Some b) → a ≡ b
same_some a b same = cc

-- ---- a step, beside the client of another name

module _ (limits : Limits) (w : World) (sound : IsSound w) (q : List ℕ) (k : Container) (is_sound : IsSoundContainer w k) (client : client_in (get w.names q) ≡ Some (k.document, id_of k)) where
  abbrev Other : Raw → Type 0
  Other = Beside (id_of k)

  abbrev d : Document
  d = document w k.document

  below : k.entries < length d.raws
  below = is_sound.entries

  -- the client of another name in the same document
  another : (p id : List ℕ) → bytes_eq q p ≡ false → client_in (get w.names p) ≡ Some (k.document, id) → length d.raws ≤ 2 ^ 64 → bytes_eq id (id_of k) ≡ false
  another p id other its fits = by (bytes_eq id (id_of k)) refl
    where
      by : (b : Bool) → bytes_eq id (id_of k) ≡ b → b ≡ false
      by true same =
          let names = sound.apart q p k.document (id_of k) client (its ∙ ap (λ i. Some (k.document, i)) ((bytes_eq-Decides id (id_of k)).0 same)) fits in
          two_at_once (bytes_eq q p) ((bytes_eq-Decides q p).1 names) other
      by false not_same = refl

  -- ---- send

  enters : (c text : List ℕ) (s : VoiceState) → client_in (Some (connection s)) ≡ client_in (get w.names c) → bytes_eq q c ≡ false
      → option_or (slice_get (filter_map connects (acts_of s text w.moment)) 0) (states.document_name s) ≡ Some k.document → length d.raws ≤ 2 ^ 64
      → All Other (entries_in (acts_of s text w.moment))
  enters c text s client_is other to fits = All-same Other (entries_in (acts_of s text w.moment)) _ (writers_enter s text w.moment) (by s client_is to)
    where
      by : (s : VoiceState) → client_in (Some (connection s)) ≡ client_in (get w.names c)
          → option_or (slice_get (filter_map connects (acts_of s text w.moment)) 0) (states.document_name s) ≡ Some k.document
          → All Other (entries_under (states.client_id s) text w.moment)
      by Fresh client_is to = none (id_of k)
      by (Reading name next) client_is to = none (id_of k)
      by (Writing name id next) client_is to =
          let its = ap (λ names. option_or (slice_get names 0) (Some name)) (none_connects (acts_of (Writing name id next) text w.moment) (no_connect (Writing name id next) text w.moment refl)) in
          let name_is : name ≡ k.document = same_some name k.document (sym its ∙ to) in
          under (id_of k) id (another c id other (sym client_is ∙ ap (λ n. Some (n, id)) name_is) fits) (submissions_of id text) w.moment
      by Used client_is to = none (id_of k)

  voice_client : (o : Option Name) → refusal_to_send o ≡ None → client_in (Some (connection (voice_named o))) ≡ client_in o
  voice_client None ok = refl
  voice_client (Some (connection v)) ok = refl
  voice_client (Some (container c)) ok = absurd (cc)
  voice_client (Some (roamer c)) ok = absurd (cc)
  voice_client (Some used_up) ok = absurd (cc)

  sends : (c text : List ℕ) → refusal_to_send (get w.names c) ≡ None → bytes_eq q c ≡ false → sent_to w c text ≡ Some k.document
      → length d.raws + length (sent limits w d c text).entries ≤ 2 ^ 64 → All Other (sent limits w d c text).entries
  sends c text ok other to fits =
      hear_beside (id_of k) limits w.opened c d k.entries refl below (hearing w c) (acts_for w c text) fits (none (id_of k))
      (enters c text (voice_of w c) (voice_client (get w.names c) ok) other to (omega (arith, fits)))

  -- ---- containers

  contained : (p : List ℕ) (does : Container → Effect) → ((j : Container) → get w.names p ≡ Some (container j) → All Other (does j).entries) → All Other (on_container w (container_of w p) does).entries
  contained p does h = by (get w.names p) refl
    where
      by : (o : Option Name) → get w.names p ≡ o → All Other (on_container w (container_in o) does).entries
      by None is = none (id_of k)
      by (Some (connection v)) is = none (id_of k)
      by (Some (container j)) is = h j is
      by (Some (roamer j)) is = none (id_of k)
      by (Some used_up) is = none (id_of k)

  shown : (p : List ℕ) (o : Option Container) (does : Container → Effect) → ((j : Container) → All Other (does j).entries) → All Other (on_container w o does).entries
  shown p None does h = none (id_of k)
  shown p (Some j) does h = h j

  -- a submission of another container
  submitted_by : (p : List ℕ) (j : Container) (kind : Offered) (contents : Tree) → bytes_eq q p ≡ false → get w.names p ≡ Some (container j) → j.document ≡ k.document → length d.raws ≤ 2 ^ 64
      → All Other (submitting limits w (ledger_of d) j kind contents).entries
  submitted_by p j kind contents other its same fits =
      submits (id_of k) (ledger_of d) _ (entry_end limits (ledger_of d) (Submit (id_of j) (submission_of (ledger_of d) j kind contents) w.moment))
      (another p (id_of j) other (ap client_in its ∙ ap (λ n. Some (n, id_of j)) same) fits)

  edits_by : (p : List ℕ) (j : Container) (edit : AnEdit) (a : Result Tree EditFault) → bytes_eq q p ≡ false → get w.names p ≡ Some (container j) → j.document ≡ k.document → length d.raws ≤ 2 ^ 64
      → All Other (edited_by limits w (ledger_of d) p j edit a).entries
  edits_by p j edit (Err fault) other its same fits = none (id_of k)
  edits_by p j edit (Ok contents) other its same fits = submitted_by p j Op contents other its same fits

  edits : (p : List ℕ) (op : Result AnEdit JsonFault) (j : Container) → bytes_eq q p ≡ false → get w.names p ≡ Some (container j) → j.document ≡ k.document → length d.raws ≤ 2 ^ 64
      → All Other (edit_effect limits w d p op j).entries
  edits p (Err fault) j other its same fits = none (id_of k)
  edits p (Ok edit) j other its same fits = edits_by p j edit (answer (visible (ledger_of d) j) edit) other its same fits

  summarizes : (p : List ℕ) (j : Container) (put : Putting) (clash : Option Clashing) → bytes_eq q p ≡ false → get w.names p ≡ Some (container j) → j.document ≡ k.document → length d.raws ≤ 2 ^ 64
      → All Other (summarized_by limits w (ledger_of d) p j put clash).entries
  summarizes p j put (Some clash) other its same fits = none (id_of k)
  summarizes p j put None other its same fits = submitted_by p j Summary _ other its same fits

  -- a container's document
  own_document : (p : List ℕ) (j : Container) → get w.names p ≡ Some (container j) → container_document w p ≡ Some k.document → j.document ≡ k.document
  own_document p j its to = same_some j.document k.document (sym (ap (λ o. option_and_then (λ c. Some c.document) (container_in o)) its) ∙ to)

  -- ---- roamers

  roaming : (r : List ℕ) (does : Roamer → Effect) → ((j : Roamer) → get w.names r ≡ Some (roamer j) → All Other (does j).entries) → All Other (on_roamer w (roamer_of w r) does).entries
  roaming r does h = by (get w.names r) refl
    where
      by : (o : Option Name) → get w.names r ≡ o → All Other (on_roamer w (roamer_in o) does).entries
      by None is = none (id_of k)
      by (Some (connection v)) is = none (id_of k)
      by (Some (container j)) is = none (id_of k)
      by (Some (roamer j)) is = h j is
      by (Some used_up) is = none (id_of k)

  -- a roamer's document
  roaming_document : (r : List ℕ) (j : Roamer) → get w.names r ≡ Some (roamer j) → roamer_document w r ≡ Some k.document → j.client.document ≡ k.document
  roaming_document r j its to = same_some j.client.document k.document (sym (ap (λ o. option_and_then (λ c. Some c.client.document) (roamer_in o)) its) ∙ to)

  -- its client is another one
  roaming_client : (r : List ℕ) (j : Roamer) → bytes_eq q r ≡ false → get w.names r ≡ Some (roamer j) → j.client.document ≡ k.document → length d.raws ≤ 2 ^ 64
      → bytes_eq (id_of j.client) (id_of k) ≡ false
  roaming_client r j other its same fits = another r (id_of j.client) other (ap client_in its ∙ ap (λ n. Some (n, id_of j.client)) same) fits

  lays : (r : List ℕ) (j : Roamer) (edit : AnEdit) (contents : Tree) (is_lost : Bool) → bytes_eq (id_of j.client) (id_of k) ≡ false
      → All Other (laid_over limits w (ledger_of d) r j edit contents is_lost).entries
  lays r j edit contents true apart = none (id_of k)
  lays r j edit contents false apart =
      submits (id_of k) (ledger_of d) _ (entry_end limits (ledger_of d) (Submit (id_of j.client) (submission_of (ledger_of d) j.client Op contents) w.moment)) apart

  says_by : (r : List ℕ) (j : Roamer) (edit : AnEdit) (a : Result Tree EditFault) → bytes_eq (id_of j.client) (id_of k) ≡ false
      → All Other (said_by limits w (ledger_of d) r j edit a).entries
  says_by r j edit (Err fault) apart = none (id_of k)
  says_by r j edit (Ok contents) apart = lays r j edit contents j.is_lost apart

  says_so : (r : List ℕ) (op : Result AnEdit JsonFault) (j : Roamer) → bytes_eq (id_of j.client) (id_of k) ≡ false → All Other (say_effect limits w d r op j).entries
  says_so r (Err fault) j apart = none (id_of k)
  says_so r (Ok edit) j apart = says_by r j edit (answer (visible (ledger_of d) j.client) edit) apart

  and_more : (s others : Submitted) (refused : Option NackRule) → All Other s.entries → All Other others.entries → All Other (and_others s others refused).entries
  and_more s others None first rest = All-append Other s.entries others.entries first rest
  and_more s others (Some rule) first rest = first

  -- ops of a client that isn't this one
  all_sent : (found : Document) (j : Container) (more : List AnEdit) → bytes_eq (id_of j) (id_of k) ≡ false → All Other (sending limits w found j more).entries
  unfolding sending
  all_sent found j [] apart = none (id_of k)
  all_sent found j (edit ∷ more) apart =
      let s = submitting limits w (ledger_of found) j Op (contents_of edit) in
      let first = submits (id_of k) (ledger_of found) _ (entry_end limits (ledger_of found) (Submit (id_of j) (submission_of (ledger_of found) j Op (contents_of edit)) w.moment)) apart in
      and_more s (sending limits w (with_entries s.entries found) j more) s.refused first (all_sent (with_entries s.entries found) j more apart)

  -- a later entry's id is another one
  later_id : (place : ℕ) → k.entries < place → place < 2 ^ 64 → bytes_eq (entry_name place) (id_of k) ≡ false
  later_id place after fits = by (bytes_eq (entry_name place) (id_of k)) refl
    where
      by : (b : Bool) → bytes_eq (entry_name place) (id_of k) ≡ b → b ≡ false
      by true same =
          absurd (omega (arith, one_place place k.entries fits (omega (arith, after, fits)) ((bytes_eq-Decides (entry_name place) (id_of k)).0 same), after))
      by false other = refl

  -- the leave of another client, the join of a new one, and its ops
  backs : (r : List ℕ) (j : Roamer) (refusal : Option ConnectRefusal)
      → length d.raws + length (back_by limits w (left w d j) r j (Leave (id_of j.client) w.moment) refusal).entries ≤ 2 ^ 64
      → All Other (back_by limits w (left w d j) r j (Leave (id_of j.client) w.moment) refusal).entries
  backs r j (Some refusal) fits = one (id_of k) _ refl
  backs r j None fits =
      let one_more = length-append d.raws (Leave (id_of j.client) w.moment ∷ []) in
      let long = length_ledger (left w d j).raws in
      let joining_entry = join_for w (ledger_of (left w d j)) in
      All-cons Other (Leave (id_of j.client) w.moment)
      (joining_entry ∷ (sending limits w (with_entries (joining_entry ∷ []) (left w d j)) (rejoined w (left w d j) j).client (rejoined w (left w d j) j).client.pending).entries) refl
      (All-cons Other joining_entry (sending limits w (with_entries (joining_entry ∷ []) (left w d j)) (rejoined w (left w d j) j).client (rejoined w (left w d j) j).client.pending).entries (join_beside (id_of k) k.entries refl (ledger_of (left w d j)) (omega (arith, long, one_more, below)) (omega (arith, long, one_more, fits)) all_scopes null w.moment)
      (all_sent (with_entries (joining_entry ∷ []) (left w d j)) (rejoined w (left w d j) j).client (rejoined w (left w d j) j).client.pending
      (later_id (length (left w d j).raws) (omega (arith, one_more, below)) (omega (arith, one_more, fits)))))

  roams : (r name : List ℕ) (refusal : Option ConnectRefusal) → length d.raws + length (roamed_by w d r name refusal).entries ≤ 2 ^ 64 → All Other (roamed_by w d r name refusal).entries
  roams r name (Some refusal) fits = none (id_of k)
  roams r name None fits =
      let long = length_ledger d.raws in
      one (id_of k) (join_for w (ledger_of d)) (join_beside (id_of k) k.entries refl (ledger_of d) (omega (arith, long, below)) (omega (arith, long, fits)) all_scopes null w.moment)

  -- ---- documents

  reports : (name : List ℕ) (j : Job) (found : Bool) (p : Putting) (clash : Option Clashing) → All Other (reported w (ledger_of d) name j found p clash).entries
  reports name j found p None = one (id_of k) _ refl
  reports name j found p (Some clash) = none (id_of k)

  scribes : (name : List ℕ) (j : Option Job) → All Other (scribed_by w (ledger_of d) name j).entries
  scribes name None = none (id_of k)
  scribes name (Some j) = reports name j (is_found w.store j) (putting w.store (objects_for (ledger_of d) (is_found w.store j) j)) _

  checkpoints : (name : List ℕ) (full large : Bool)
      → All Other (if full then says w (full_line name ∷ []) else (if large then says w (large_line name (length (checkpoint_of (ledger_of d))) ∷ [])
      else record (says w (stored_line name (length d.checkpoints) (length d.raws) ∷ [])) { checkpoints = length d.raws ∷ [] })).entries
  checkpoints name true large = none (id_of k)
  checkpoints name false true = none (id_of k)
  checkpoints name false false = none (id_of k)

  sweeps : (name : List ℕ) (silent : Option (List ℕ)) → All Other (swept_by w name silent).entries
  sweeps name None = none (id_of k)
  sweeps name (Some id) = one (id_of k) _ refl

  leaves : (ids : List (List ℕ)) → All Other (map (λ id. Leave id w.moment) ids)
  leaves ids = All-map Other (λ id. Leave id w.moment) ids (λ i x lt. refl)

  closes : (id : Option (List ℕ)) → All Other (option_to_list (option_map (λ id. Leave id w.moment) id))
  closes None = none (id_of k)
  closes (Some id) = one (id_of k) _ refl

  -- ---- load

  joins : (refused : Bool) → length d.raws + length (if refused then [] else (join_for w (ledger_of d) ∷ [])) ≤ 2 ^ 64 → All Other (if refused then [] else (join_for w (ledger_of d) ∷ []))
  joins true fits = none (id_of k)
  joins false fits =
      let long = length_ledger d.raws in
      one (id_of k) (join_for w (ledger_of d)) (join_beside (id_of k) k.entries refl (ledger_of d) (omega (arith, long, below)) (omega (arith, long, fits)) all_scopes null w.moment)

  -- ---- all of them

  pub beside : (step : Step) → refusal w step ≡ None → IsOther (own_name step) q → about w step ≡ Some k.document → length d.raws + length (effect limits w d step).entries ≤ 2 ^ 64
      → All Other (effect limits w d step).entries
  beside (Send c text) ok other to fits = sends c text ok other to fits
  beside (Collect c) ok other to fits = none (id_of k)
  beside (Close c) ok other to fits = closes (states.client_id (voice_of w c))
  beside (Scribe name) ok other to fits = scribes name (job (order (ledger_of d)))
  beside (Checkpoint name) ok other to fits = checkpoints name (nat_le limits.checkpoints (length d.checkpoints)) (nat_lt limits.bytes (length (checkpoint_of (ledger_of d))))
  beside (Restart name checkpoint) ok other to fits = none (id_of k)
  beside (Reopen name) ok other to fits = leaves (joined (ledger_of d))
  beside (Sweep name silence) ok other to fits = sweeps name (first_silent_in w.moment silence (ledger_of d))
  beside (Count name) ok other to fits = none (id_of k)
  beside (Tasks name) ok other to fits = none (id_of k)
  beside (Load p name pick) ok other to fits = joins (is_some (join_refusal (joining limits w (ledger_of d)))) fits
  beside (Pump p) ok other to fits = contained p _ (λ j its. none (id_of k))
  beside (Edit p op) ok other to fits = contained p _ (λ j its. edits p op j other its (own_document p j its to) (omega (arith, fits)))
  beside (Beat p) ok other to fits = contained p _ (λ j its. submitted_by p j Noop _ other its (own_document p j its to) (omega (arith, fits)))
  beside (Summarize p) ok other to fits =
      contained p _ (λ j its. summarizes p j (putting w.store (objects (app_tree (channels (ledger_of d) j)))) _ other its (own_document p j its to) (omega (arith, fits)))
  beside (Show p) ok other to fits = shown p (shown_of w p) _ (λ j. none (id_of k))
  beside (Roam r name) ok other to fits = roams r name (join_refusal (joining limits w (ledger_of d))) fits
  beside (Say r op) ok other to fits = roaming r _ (λ j its. says_so r op j (roaming_client r j other its (roaming_document r j its to) (omega (arith, fits))))
  beside (Lose r) ok other to fits = roaming r _ (λ j its. none (id_of k))
  beside (Back r) ok other to fits =
      roaming r _ (λ j its. backs r j (join_refusal (joining limits w (ledger_of (left w d j))))
      (subst (λ o. length d.raws + length (on_roamer w (roamer_in o) (came_back limits w d r)).entries ≤ 2 ^ 64) its fits))
  beside (Acked r) ok other to fits = roaming r _ (λ j its. none (id_of k))
