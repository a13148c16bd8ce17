-- The steps of a workload by which nobody submits.
use Rattle.std.proofs.Common.{◌≡◌, ℕ, ◌+◌, arith, Bool, true, false, cond, if◌then◌else◌, List, [], ◌∷◌, ◌++◌, map, length, All, Option, Some, None, Ok, bytes_eq, refl, sym, ap, subst, ◌∙◌, append-nil, append_assoc}
use Rattle.std.specs.Prelude.{is_some, nat_le, nat_lt, ◌&&◌}
use Rattle.std.specs.FinMap.{insert}
use Rattle.std.proofs.lemmas.List.Elements.{All-nil, All-cons, All-head, All-tail, All-append}
use Rattle.std.proofs.lemmas.Slice.Eq.{bytes_eq-Decides}
use Rattle.json.specs.Json.{items, members, value}
use Rattle.json.specs.Lex.{lex, punctuate}
use Rattle.json.specs.Text.{content}
use Rattle.json.specs.Word.{after_number, word}
use Rattle.serde_json.specs.Read.{number_of}
use Rattle.fluid_json.specs.Spelled.{reaches, answer_within}
use Rattle.fluid_json.specs.Tree.{null}
use Rattle.fluid_types.specs.Ledger.{Ledger}
use Rattle.fluid_types.specs.Forms.{a_value, texts}
use Rattle.fluid_types.specs.Texts.{name_of}
use Rattle.fluid_types.specs.Names.{is_name}
use Rattle.fluid_types.specs.declared.entries.Raw.{Raw}
use Rattle.fluid_types.specs.declared.entries.Raw.TheVariants.{Join, Leave, Submit, Report}
use Rattle.fluid_types.specs.declared.messages.Message.{Message}
use Rattle.fluid_types.specs.declared.verdicts.Verdict.{Verdict}
use Rattle.fluid_types.specs.declared.verdicts.Verdict.TheVariants as said
use Rattle.fluid_rules.specs.Rules.{sequenced, message, is_joined, joined, verdict, ledger, entries_behind}
use Rattle.fluid_rules.specs.declared.limits.Limits.{Limits}
use Rattle.fluid_codec.specs.Events.{connect_document, event, event_spelled}
use Rattle.fluid_codec.specs.declared.events.Event.TheVariants as heard
use Rattle.fluid_scribe.specs.declared.job.Job.{Job}
use Rattle.fluid_store.specs.Putting.{Putting, Clashing, putting}
use Rattle.fluid_steps.specs.declared.steps.Step.{Step}
use Rattle.fluid_steps.specs.declared.steps.Step.TheVariants.{Send, Collect, Close, Scribe, Checkpoint, Restart, Reopen, Sweep, Count, Tasks, Load, Pump, Edit, Beat, Summarize, Show, Roam, Say, Lose, Back, Acked}
use Rattle.fluid_steps.specs.declared.refusal.LineWhy.{LineWhy}
use Rattle.fluid_voice.specs.declared.states.VoiceState.{VoiceState}
use Rattle.fluid_voice.specs.declared.actions.Act.{Act}
use Rattle.fluid_voice.specs.declared.actions.Act.TheVariants as act
use Rattle.fluid_voice.specs.declared.ends.ActEnd.{ActEnd}
use Rattle.fluid_voice.specs.declared.ends.ActEnd.TheVariants as end
use Rattle.fluid_voice.specs.Heard.{acts_of}
use Rattle.fluid_voice.specs.Ends.{Outcome, outcome, is_beyond}
use Rattle.fluid_voice.specs.Ends.Outcome.{ends, clashes}
use Rattle.fluid_voice.proofs.Each.{each}
use Rattle.fluid_transcript.specs.World.{Container, World, Document, document, is_open, ledger_of, with_entries, raws_added, farewells, says, grown, does}
use Rattle.fluid_transcript.specs.Connections.{Hearing, voice_of, hearing, found_by, behind_act, hear_act, hear}
use Rattle.fluid_versions.specs.Versions.{is_found}
use Rattle.fluid_transcript.specs.Documents.{scribed_by, objects_for, reported, checkpoint_of, checkpointed, stored}
use Rattle.fluid_transcript.specs.Lines.{full_line, large_line, stored_line}
use Rattle.fluid_transcript.specs.Containers.{joining, join_refusal, join_for, pumped}
use Rattle.fluid_transcript.specs.Steps.{refusal, about, effect, beyond, container_of, on_container}
use Rattle.fluid_transcript.specs.Transcript.{readied, done_in, done_on, done}
use Rattle.fluid_transcript.proofs.Begins.{ledger_more}
use Rattle.fluid_transcript.proofs.Sounds.{document_inserted}
use Rattle.fluid_workload.specs.Working.{work, connecting, behind_step}
use Rattle.fluid_voice.specs.Replies.{is_nacked}
use Rattle.fluid_workload.specs.Summary.{count, is_absorbed}
use Rattle.fluid_turns.proofs.Tallied.{first_of}
use Rattle.fluid_turns.specs.Quiet.{is_submission, IsQuietStep, GoesQuietly, StepsGoQuietly}

-- ---- entries without submissions

abbrev Quiet : Raw → Type 0
Quiet raw = is_submission raw ≡ false

none : All Quiet []
none = All-nil Quiet

one : (raw : Raw) → Quiet raw → All Quiet (raw ∷ [])
one raw h = All-cons Quiet raw [] h none

chosen : (b : Bool) (xs ys : List Raw) → All Quiet xs → All Quiet ys → All Quiet (if b then xs else ys)
chosen true xs ys h k = h
chosen false xs ys h k = k

-- a document goes on by these
record GoesBy (old new : Document) : Type 0 where
  more : List Raw
  is : new.raws ≡ old.raws ++ more
  each_is : All Quiet more

goes_not : (d : Document) → GoesBy d d
goes_not d = record { more = []; is = sym (append-nil d.raws); each_is = none }

goes_then : (a b c : Document) → GoesBy a b → GoesBy b c → GoesBy a c
goes_then a b c first second = record {
  more = first.more ++ second.more;
  is = second.is ∙ ap (λ r. r ++ second.more) first.is ∙ append_assoc a.raws first.more second.more;
  each_is = All-append Quiet first.more second.more first.each_is second.each_is;
}

-- ---- their verdicts

no_absorbed : (o : Option Message) → is_absorbed (sequenced o) ≡ false
no_absorbed None = refl
no_absorbed (Some m) = refl

no_nacked : (o : Option Message) → is_nacked (sequenced o) ≡ false
no_nacked None = refl
no_nacked (Some m) = refl

unabsorbed : (l : Ledger) (raw : Raw) → Quiet raw → is_absorbed (verdict l raw) ≡ false
unfolding verdict
unabsorbed l (Join id scopes detail moment) h = by (is_joined l id)
  where
    by : (b : Bool) → is_absorbed (if b then said.Dropped else sequenced (message l (Join id scopes detail moment))) ≡ false
    by true = refl
    by false = no_absorbed (message l (Join id scopes detail moment))
unabsorbed l (Leave id moment) h = by (is_joined l id)
  where
    by : (b : Bool) → is_absorbed (if b then sequenced (message l (Leave id moment)) else said.Dropped) ≡ false
    by true = no_absorbed (message l (Leave id moment))
    by false = refl
unabsorbed l (Submit id submission moment) h = absurd (cc)
unabsorbed l (Report summary found moment) h = no_absorbed (message l (Report summary found moment))

unnacked : (l : Ledger) (raw : Raw) → Quiet raw → is_nacked (verdict l raw) ≡ false
unfolding verdict
unnacked l (Join id scopes detail moment) h = by (is_joined l id)
  where
    by : (b : Bool) → is_nacked (if b then said.Dropped else sequenced (message l (Join id scopes detail moment))) ≡ false
    by true = refl
    by false = no_nacked (message l (Join id scopes detail moment))
unnacked l (Leave id moment) h = by (is_joined l id)
  where
    by : (b : Bool) → is_nacked (if b then sequenced (message l (Leave id moment)) else said.Dropped) ≡ false
    by true = no_nacked (message l (Leave id moment))
    by false = refl
unnacked l (Submit id submission moment) h = absurd (cc)
unnacked l (Report summary found moment) h = no_nacked (message l (Report summary found moment))

counted_none : (kind : Verdict → Bool) (entry : Raw × Verdict) (l : Ledger) → kind entry.1 ≡ false → count kind l ≡ 0 → count kind (entry ∷ l) ≡ 0
counted_none kind entry l is none =
    let first : count kind (entry ∷ l) ≡ 0 + count kind l = first_of kind entry l ∙ ap (λ b. cond b 1 0 + count kind l) is in
    omega (arith, first, none)

absorbed_none : (l : Ledger) (more : List Raw) → All Quiet more → count is_absorbed (entries_behind l more) ≡ 0
absorbed_none l [] h = refl
absorbed_none l (raw ∷ more) h =
    counted_none is_absorbed (raw, verdict l raw) (entries_behind (l ++ (raw, verdict l raw) ∷ []) more) (unabsorbed l raw (All-head Quiet raw more h))
    (absorbed_none (l ++ (raw, verdict l raw) ∷ []) more (All-tail Quiet raw more h))

nacked_none : (l : Ledger) (more : List Raw) → All Quiet more → count is_nacked (entries_behind l more) ≡ 0
nacked_none l [] h = refl
nacked_none l (raw ∷ more) h =
    counted_none is_nacked (raw, verdict l raw) (entries_behind (l ++ (raw, verdict l raw) ∷ []) more) (unnacked l raw (All-head Quiet raw more h))
    (nacked_none (l ++ (raw, verdict l raw) ∷ []) more (All-tail Quiet raw more h))

quietly : (old new : Document) → GoesBy old new → GoesQuietly (ledger_of old) (ledger_of new)
quietly old new goes = record {
  more = entries_behind (ledger_of old) goes.more;
  is = ap ledger goes.is ∙ ledger_more old.raws goes.more;
  absorbed = absorbed_none (ledger_of old) goes.more goes.each_is;
  nacked = nacked_none (ledger_of old) goes.more goes.each_is;
}

-- ---- a step

leaves_quiet : (moment : ℕ) (ids : List (List ℕ)) → All Quiet (map (λ id. Leave id moment) ids)
leaves_quiet moment [] = none
leaves_quiet moment (id ∷ ids) = All-cons Quiet (Leave id moment) (map (λ i. Leave i moment) ids) refl (leaves_quiet moment ids)

inserted : (w : World) (name q : List ℕ) (new : Document) → GoesBy (document w name) new → GoesBy (document w q) (document (record w { documents = insert w.documents name new }) q)
inserted w name q new goes =
    subst (GoesBy (document w q)) (sym (document_inserted w.documents name new q)) (by (bytes_eq q name) refl)
  where
    by : (b : Bool) → bytes_eq q name ≡ b → GoesBy (document w q) (cond b new (document w q))
    by true same = subst (λ n. GoesBy (document w n) new) (sym ((bytes_eq-Decides q name).0 same)) goes
    by false other = goes_not (document w q)

readied_goes : (w : World) (name q : List ℕ) → GoesBy (document w q) (document (readied w name) q)
readied_goes w name q = by (is_open w name)
  where
    by : (b : Bool) → GoesBy (document w q) (document (if b then w else (record w { documents = insert w.documents name (with_entries (farewells w.moment (document w name)) (document w name)); opened = w.opened ++ name ∷ [] })) q)
    by true = goes_not (document w q)
    by false =
        inserted w name q (with_entries (farewells w.moment (document w name)) (document w name))
        (record { more = farewells w.moment (document w name); is = refl; each_is = leaves_quiet w.moment (joined (ledger_of (document w name))) })

module _ (limits : Limits) (w : World) (step : Step) (each_quiet : (r : World) (d : Document) → All Quiet (effect limits r d step).entries) where
  in_goes : (r : World) (name q : List ℕ) → GoesBy (document r q) (document (done_in limits r name step).world q)
  in_goes r name q = inserted r name q (grown (effect limits r (document r name) step) (document r name)) (record { more = (effect limits r (document r name) step).entries; is = refl; each_is = each_quiet r (document r name) })

  on_goes : (name : Option (List ℕ)) (q : List ℕ) → GoesBy (document w q) (document (done_on limits w name step).world q)
  on_goes None q = goes_not (document w q)
  on_goes (Some name) q = by (is_beyond w.opened name)
    where
      by : (b : Bool) → GoesBy (document w q) (document (if b then does (beyond limits w name step) None w else done_in limits (readied w name) name step).world q)
      by true = goes_not (document w q)
      by false = goes_then (document w q) (document (readied w name) q) (document (done_in limits (readied w name) name step).world q) (readied_goes w name q) (in_goes (readied w name) name q)

  step_goes : (q : List ℕ) → GoesBy (document w q) (document (behind_step limits w step) q)
  step_goes q = by (refusal w step)
    where
      by : (o : Option LineWhy) → GoesBy (document w q) (document (if is_some o then w else (done limits w step).world) q)
      by None = on_goes (about w step) q
      by (Some why) = goes_not (document w q)

-- ---- what each step enters

-- a connect, and what is said
abbrev EntersNothing : Act → Type 0
EntersNothing a = (l : Ledger) (e : ActEnd) → All Quiet (raws_added l a (ends e))

connect_quiet : (name : List ℕ) (write : Bool) (scopes : _) (detail : _) (moment : ℕ) → EntersNothing (act.Connect name write scopes detail moment)
connect_quiet name write scopes detail moment l (end.Joined id number) = one _ refl
connect_quiet name write scopes detail moment l (end.Entered v) = one _ refl
connect_quiet name write scopes detail moment l end.Said = none
connect_quiet name write scopes detail moment l (end.Told last) = none
connect_quiet name write scopes detail moment l end.FullNow = none
connect_quiet name write scopes detail moment l end.TooMany = none
connect_quiet name write scopes detail moment l (end.Given reply) = none

connect_spelled : event_spelled connecting ≡ Ok (heard.Connect work true (record { read = true; write = true; summary = true }) null)
unfolding is_name items members value lex punctuate content after_number word number_of reaches answer_within event connect_document a_value texts name_of
connect_spelled = refl

acts_quiet : (s : VoiceState) (moment : ℕ) → All EntersNothing (acts_of s connecting moment)
acts_quiet s moment = each EntersNothing s connecting moment (record {
  nack = λ rule l e. none;
  refusal = λ refusal l e. none;
  connect = λ name write scopes client spelled not_yet. connect_quiet name (write && scopes.write) scopes client moment;
  submit = λ id submissions spelled. let two = sym connect_spelled ∙ spelled in absurd (cc);
  deltas = λ from to l e. none;
  summary = λ asked l e. none;
  get = λ id l e. none;
  put = λ bytes l e. none;
})

module _ (limits : Limits) (opened : List (List ℕ)) (c : List ℕ) (d : Document) where
  act_quiet : (h : Hearing) (a : Act) (o : Outcome) → EntersNothing a → All Quiet h.entries → All Quiet (behind_act c (found_by limits opened d h) a h o).entries
  act_quiet h a (ends e) enters before = All-append Quiet h.entries (raws_added (found_by limits opened d h).ledger a (ends e)) before (enters (found_by limits opened d h).ledger e)
  act_quiet h a (clashes id kept new) enters before = before

  hear_quiet : (h : Hearing) (acts : List Act) → All EntersNothing acts → All Quiet h.entries → All Quiet (hear limits opened c d h acts).entries
  hear_quiet h [] enter before = before
  hear_quiet h (a ∷ acts) enter before =
      hear_quiet (hear_act limits opened c d h a) acts (All-tail EntersNothing a acts enter)
      (act_quiet h a (outcome (found_by limits opened d h) a) (All-head EntersNothing a acts enter) before)

report_quiet : (w : World) (l : Ledger) (name : List ℕ) (j : Job) (found : Bool) (p : Putting) (clash : Option Clashing) → All Quiet (reported w l name j found p clash).entries
report_quiet w l name j found p None = one _ refl
report_quiet w l name j found p (Some clash) = none

scribe_quiet : (w : World) (l : Ledger) (name : List ℕ) (j : Option Job) → All Quiet (scribed_by w l name j).entries
scribe_quiet w l name None = none
scribe_quiet w l name (Some j) = report_quiet w l name j (is_found w.store j) (putting w.store (objects_for l (is_found w.store j) j)) _

stored_quiet : (limits : Limits) (w : World) (d : Document) (name : List ℕ) (bytes : ℕ) → All Quiet (stored limits w d name bytes).entries
stored_quiet limits w d name bytes = by (nat_lt limits.bytes bytes)
  where
    by : (b : Bool) → All Quiet (if b then says w (large_line name bytes ∷ []) else (record (says w (stored_line name (length d.checkpoints) (length d.raws) ∷ [])) { checkpoints = length d.raws ∷ [] })).entries
    by true = none
    by false = none

checkpoint_quiet : (limits : Limits) (w : World) (d : Document) (name : List ℕ) → All Quiet (checkpointed limits w d name).entries
checkpoint_quiet limits w d name = by (nat_le limits.checkpoints (length d.checkpoints))
  where
    by : (b : Bool) → All Quiet (if b then says w (full_line name ∷ []) else stored limits w d name (length (checkpoint_of (ledger_of d)))).entries
    by true = none
    by false = stored_quiet limits w d name (length (checkpoint_of (ledger_of d)))

quiet_entries : (limits : Limits) (step : Step) → IsQuietStep step → (r : World) (d : Document) → All Quiet (effect limits r d step).entries
quiet_entries limits (Send c text) is r d =
    subst (λ t. All Quiet (effect limits r d (Send c t)).entries) (sym is) (hear_quiet limits r.opened c d (hearing r c) (acts_of (voice_of r c) connecting r.moment) (acts_quiet (voice_of r c) r.moment) none)
quiet_entries limits (Collect c) is r d = none
quiet_entries limits (Scribe name) is r d = scribe_quiet r (ledger_of d) name _
quiet_entries limits (Checkpoint name) is r d = checkpoint_quiet limits r d name
quiet_entries limits (Restart name number) is r d = none
quiet_entries limits (Load p name pick) is r d = by (is_some (join_refusal (joining limits r (ledger_of d))))
  where
    by : (b : Bool) → All Quiet (if b then [] else join_for r (ledger_of d) ∷ [])
    by true = none
    by false = one _ refl
quiet_entries limits (Pump p) is r d = by (container_of r p)
  where
    by : (o : Option Container) → All Quiet (on_container r o (pumped r d p)).entries
    by None = none
    by (Some k) = none
quiet_entries limits (Close c) is r d = absurd is
quiet_entries limits (Reopen name) is r d = absurd is
quiet_entries limits (Sweep name silence) is r d = absurd is
quiet_entries limits (Count name) is r d = absurd is
quiet_entries limits (Tasks name) is r d = absurd is
quiet_entries limits (Edit p op) is r d = absurd is
quiet_entries limits (Beat p) is r d = absurd is
quiet_entries limits (Summarize p) is r d = absurd is
quiet_entries limits (Show p) is r d = absurd is
quiet_entries limits (Roam q name) is r d = absurd is
quiet_entries limits (Say q op) is r d = absurd is
quiet_entries limits (Lose q) is r d = absurd is
quiet_entries limits (Back q) is r d = absurd is
quiet_entries limits (Acked q) is r d = absurd is

pub steps_go_quietly : StepsGoQuietly
steps_go_quietly limits w step is = quietly (document w work) (document (behind_step limits w step) work) (step_goes limits w step (quiet_entries limits step is) work)
