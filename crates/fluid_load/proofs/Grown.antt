-- How much a step of a workload adds to each document: one entry at most.
use Rattle.std.proofs.Common.{◌≡◌, ◌⊎◌, inl, inr, ℕ, ◌+◌, ◌≤◌, arith, Bool, true, false, cond, if◌then◌else◌, List, [], ◌∷◌, ◌++◌, map, length, Option, Some, None, Result, Ok, Err, bytes_eq, refl, sym, ap, subst, ◌∙◌, length-append}
use Rattle.std.specs.Prelude.{is_some, option_and_then, slice_get, nat_le, nat_lt, IfSome}
use Rattle.std.specs.List.{filter_map}
use Rattle.std.specs.Option.{option_or}
use Rattle.std.specs.FinMap.{get, insert}
use Rattle.std.proofs.lemmas.Slice.Eq.{bytes_eq-Decides}
use Rattle.json.specs.Json.{items, members, value}
use Rattle.json.specs.Lex.{lex, punctuate}
use Rattle.json.specs.Text.{content}
use Rattle.json.specs.Word.{after_number, word}
use Rattle.serde_json.specs.Read.{number_of}
use Rattle.fluid_json.specs.Spelled.{reaches, answer_within}
use Rattle.fluid_json.specs.Tree.{Tree, null}
use Rattle.fluid_types.specs.Forms.{a_value, texts}
use Rattle.fluid_types.specs.Texts.{name_of}
use Rattle.fluid_types.specs.Names.{is_name}
use Rattle.fluid_types.specs.Ledger.{Ledger}
use Rattle.fluid_types.specs.declared.entries.Raw.{Raw}
use Rattle.fluid_types.specs.declared.entries.Raw.TheVariants.{Leave}
use Rattle.fluid_types.specs.declared.entries.Offered.{Offered}
use Rattle.fluid_types.specs.declared.entries.Offered.TheVariants.{Op, Summarize as Summarizing}
use Rattle.fluid_rules.specs.Past as past
use Rattle.fluid_rules.specs.Past.{ever_joined}
use Rattle.fluid_rules.specs.Rules.{joined, past_of, ledger, verdict}
use Rattle.fluid_rules.specs.Counted.{is_full}
use Rattle.fluid_rules.specs.declared.limits.Limits.{Limits}
use Rattle.fluid_codec.specs.Events.{connect_document, event, event_spelled}
use Rattle.fluid_codec.specs.declared.events.Event.TheVariants as heard
use Rattle.fluid_store.specs.Putting.{Putting, Clashing, putting}
use Rattle.fluid_scribe.specs.Jobs.{job}
use Rattle.fluid_scribe.specs.declared.job.Job.{Job}
use Rattle.fluid_store.specs.Listed.{objects}
use Rattle.fluid_runtime.specs.AppTree.{app_tree}
use Rattle.fluid_runtime.specs.Refused.{answer}
use Rattle.fluid_runtime.specs.declared.fault.EditFault.{EditFault}
use Rattle.fluid_edits.specs.declared.edit.Edit.{Edit as AnEdit}
use Rattle.fluid_loader.specs.Submitting.{summarize_tree}
use Rattle.fluid_loader.specs.declared.link.Pick.TheVariants.{Empty}
use Rattle.fluid_types.specs.Ledger.{order}
use Rattle.fluid_steps.specs.declared.steps.Step.{Step}
use Rattle.fluid_steps.specs.declared.steps.Step.TheVariants.{Send, Collect, Close, Scribe, Checkpoint, Restart, Reopen, Sweep, Count, Tasks, Load, Pump, Edit, Beat, Summarize, Show, Roam, Say, Lose, Back, Acked}
use Rattle.fluid_steps.specs.declared.refusal.LineWhy.{LineWhy}
use Rattle.fluid_voice.specs.declared.states.VoiceState.{VoiceState}
use Rattle.fluid_voice.specs.declared.states.VoiceState.TheVariants.{Fresh, Reading, Writing, Used}
use Rattle.fluid_voice.specs.declared.actions.Act.{Act}
use Rattle.fluid_voice.specs.declared.actions.Act.TheVariants as act
use Rattle.fluid_voice.specs.declared.ends.ActEnd.{ActEnd}
use Rattle.fluid_voice.specs.declared.ends.ActEnd.TheVariants as end
use Rattle.fluid_voice.specs.Ends.{Outcome, outcome, is_beyond, entry_end}
use Rattle.fluid_voice.specs.Ends.Outcome.{ends, clashes}
use Rattle.fluid_voice.specs.Heard.{acts_of, read_acts}
use Rattle.fluid_voice.specs.States.{document_name, is_used}
use Rattle.fluid_transcript.specs.World.{Name, connection, container, roamer, used_up, Container, World, Document, document, is_open, ledger_of, farewells, with_entries, Effect, says, grown, changed, does}
use Rattle.fluid_transcript.specs.Connections.{voice_named, voice_of, connects, hearing, found_by, behind_act, hear}
use Rattle.fluid_versions.specs.Versions.{is_found}
use Rattle.fluid_transcript.specs.Documents.{scribed_by, reported, objects_for, checkpoint_of, checkpointed, stored}
use Rattle.fluid_transcript.specs.Lines.{full_line, large_line, stored_line}
use Rattle.fluid_transcript.specs.Containers.{submitted_as, submitting, channels, visible, app_id, head, joining, join_refusal, join_for, pumped, edited_by, summarized, summarized_by, entry_of}
use Rattle.fluid_transcript.specs.Steps.{refusal, refusal_as_new, about, effect, beyond, container_in, container_of, on_container, edit_effect}
use Rattle.fluid_transcript.specs.Transcript.{readied, done, done_in, done_on}
use Rattle.fluid_transcript.specs.Sound.{IsSoundName, IsSound}
use Rattle.fluid_transcript.proofs.Sounds.{document_inserted}
use Rattle.fluid_desk.proofs.Opening.{readied_same}
use Rattle.fluid_workload.specs.Working.{work, p, connecting, behind_step, behind_entry}
use Rattle.fluid_turns.proofs.Lanes.{heard_so, entry_is}
use Rattle.fluid_load.specs.Standing.{IsNew, GrowsBy}
use Rattle.fluid_load.specs.Quiet.{IsOwnStep}

-- ---- what it enters

abbrev Few : List Raw → Type 0
Few entries = length entries ≤ 1

reported_few : (w : World) (l : Ledger) (name : List ℕ) (j : Job) (found : Bool) (put : Putting) (clash : Option Clashing) → Few (reported w l name j found put clash).entries
reported_few w l name j found put (Some clash) = omega arith
reported_few w l name j found put None = omega arith

scribed_few : (w : World) (l : Ledger) (name : List ℕ) (j : Option Job) → Few (scribed_by w l name j).entries
scribed_few w l name None = omega arith
scribed_few w l name (Some j) = reported_few w l name j (is_found w.store j) (putting w.store (objects_for l (is_found w.store j) j)) _

submitted_few : (l : Ledger) (raw : Raw) (out : ActEnd) → Few (submitted_as l raw out).entries
submitted_few l raw (end.Entered v) = omega arith
submitted_few l raw (end.Joined id number) = omega arith
submitted_few l raw end.Said = omega arith
submitted_few l raw (end.Told last) = omega arith
submitted_few l raw end.FullNow = omega arith
submitted_few l raw end.TooMany = omega arith
submitted_few l raw (end.Given reply) = omega arith

submitting_few : (limits : Limits) (w : World) (l : Ledger) (k : Container) (kind : Offered) (contents : Tree) → Few (submitting limits w l k kind contents).entries
submitting_few limits w l k kind contents = submitted_few l (entry_of w l k kind contents) (entry_end limits l (entry_of w l k kind contents))

summary_few : (limits : Limits) (w : World) (l : Ledger) (p : List ℕ) (k : Container) (put : Putting) (clash : Option Clashing) → Few (summarized_by limits w l p k put clash).entries
summary_few limits w l p k put (Some clash) = omega arith
summary_few limits w l p k put None = submitting_few limits w l k Summarizing (summarize_tree (app_id (channels l k)) (head l k) k.number)

edited_few : (limits : Limits) (w : World) (l : Ledger) (p : List ℕ) (k : Container) (edit : AnEdit) (r : Result Tree EditFault) → Few (edited_by limits w l p k edit r).entries
edited_few limits w l p k edit (Ok contents) = submitting_few limits w l k Op contents
edited_few limits w l p k edit (Err fault) = omega arith

stored_few : (limits : Limits) (w : World) (d : Document) (name : List ℕ) (bytes : ℕ) → Few (stored limits w d name bytes).entries
stored_few limits w d name bytes = by (nat_lt limits.bytes bytes)
  where
    by : (b : Bool) → Few (if b then says w (large_line name bytes ∷ []) else (record (says w (stored_line name (length d.checkpoints) (length d.raws) ∷ [])) { checkpoints = length d.raws ∷ [] })).entries
    by true = omega arith
    by false = omega arith

checkpoint_few : (limits : Limits) (w : World) (d : Document) (name : List ℕ) → Few (checkpointed limits w d name).entries
checkpoint_few limits w d name = by (nat_le limits.checkpoints (length d.checkpoints))
  where
    by : (b : Bool) → Few (if b then says w (full_line name ∷ []) else stored limits w d name (length (checkpoint_of (ledger_of d)))).entries
    by true = omega arith
    by false = stored_few limits w d name (length (checkpoint_of (ledger_of d)))

-- what is said to join is a connect, by which nobody but that client joins
connect_spelled : event_spelled connecting ≡ Ok (heard.Connect work true (record { read = true; write = true; summary = true }) null)
unfolding is_name items members value lex punctuate content after_number word number_of reaches answer_within event connect_document a_value texts name_of
connect_spelled = refl

abbrev connect : ℕ → Act
connect moment = act.Connect work true (record { read = true; write = true; summary = true }) null moment

module _ (limits : Limits) (r : World) (c : List ℕ) (d : Document) (moment : ℕ) where
  connected_few : (o : Outcome) → Few (behind_act c (found_by limits r.opened d (hearing r c)) (connect moment) (hearing r c) o).entries
  connected_few (ends (end.Joined id number)) = omega arith
  connected_few (ends (end.Entered v)) = omega arith
  connected_few (ends end.Said) = omega arith
  connected_few (ends (end.Told last)) = omega arith
  connected_few (ends end.FullNow) = omega arith
  connected_few (ends end.TooMany) = omega arith
  connected_few (ends (end.Given reply)) = omega arith
  connected_few (clashes id kept new) = omega arith

  sent_few : (v : VoiceState) → Few (hear limits r.opened c d (hearing r c) (acts_of v connecting moment)).entries
  unfolding acts_of
  sent_few v = subst (λ x. Few (hear limits r.opened c d (hearing r c) (if is_used v then [] else read_acts v moment x)).entries) (sym connect_spelled) (by v)
    where
      by : (v : VoiceState) → Few (hear limits r.opened c d (hearing r c) (if is_used v then [] else read_acts v moment (Ok (heard.Connect work true (record { read = true; write = true; summary = true }) null)))).entries
      by Fresh = connected_few (outcome (found_by limits r.opened d (hearing r c)) (connect moment))
      by (Reading name next) = omega arith
      by (Writing name id next) = omega arith
      by Used = omega arith

own_few : (limits : Limits) (step : Step) → IsOwnStep step → (r : World) (d : Document) → Few (effect limits r d step).entries
own_few limits (Send c text) is r d = subst (λ t. Few (effect limits r d (Send c t)).entries) (sym is) (sent_few limits r c d r.moment (voice_of r c))
own_few limits (Collect c) is r d = omega arith
own_few limits (Scribe name) is r d = scribed_few r (ledger_of d) name (job (order (ledger_of d)))
own_few limits (Checkpoint name) is r d = checkpoint_few limits r d name
own_few limits (Restart name number) is r d = omega arith
own_few limits (Load p name pick) is r d = by (is_some (join_refusal (joining limits r (ledger_of d))))
  where
    by : (b : Bool) → Few (if b then [] else join_for r (ledger_of d) ∷ [])
    by true = omega arith
    by false = omega arith
own_few limits (Pump p) is r d = by (container_of r p)
  where
    by : (o : Option Container) → Few (on_container r o (pumped r d p)).entries
    by None = omega arith
    by (Some k) = omega arith
own_few limits (Edit p (Ok edit)) is r d = by (container_of r p)
  where
    by : (o : Option Container) → Few (on_container r o (edit_effect limits r d p (Ok edit))).entries
    by None = omega arith
    by (Some k) = edited_few limits r (ledger_of d) p k edit (answer (visible (ledger_of d) k) edit)
own_few limits (Summarize p) is r d = by (container_of r p)
  where
    by : (o : Option Container) → Few (on_container r o (summarized limits r d p)).entries
    by None = omega arith
    by (Some k) =
        let put = putting r.store (objects (app_tree (channels (ledger_of d) k))) in
        summary_few limits r (ledger_of d) p k put put.clash
own_few limits (Close c) is r d = absurd is
own_few limits (Reopen name) is r d = absurd is
own_few limits (Sweep name silence) is r d = absurd is
own_few limits (Count name) is r d = absurd is
own_few limits (Tasks name) is r d = absurd is
own_few limits (Edit p (Err fault)) is r d = absurd is
own_few limits (Beat p) is r d = absurd is
own_few limits (Show p) is r d = absurd is
own_few limits (Roam q name) is r d = absurd is
own_few limits (Say q op) is r d = absurd is
own_few limits (Lose q) is r d = absurd is
own_few limits (Back q) is r d = absurd is
own_few limits (Acked q) is r d = absurd is

-- ---- which document it reaches

-- that of a name is open
voice_open : (w : World) (o : Option Name) → IfSome o (IsSoundName w) → (name : List ℕ) → document_name (voice_named o) ≡ Some name → is_open w name ≡ true
voice_open w None sound name is = absurd (cc)
voice_open w (Some (connection Fresh)) sound name is = absurd (cc)
voice_open w (Some (connection (Reading own next))) sound name is = let same : own ≡ name = cc in subst (λ n. is_open w n ≡ true) same sound.open_is
voice_open w (Some (connection (Writing own id next))) sound name is = let same : own ≡ name = cc in subst (λ n. is_open w n ≡ true) same sound.1.open_is
voice_open w (Some (connection Used)) sound name is = absurd sound
voice_open w (Some (container k)) sound name is = absurd (cc)
voice_open w (Some (roamer k)) sound name is = absurd (cc)
voice_open w (Some used_up) sound name is = absurd (cc)

container_open : (w : World) (o : Option Name) → IfSome o (IsSoundName w) → (name : List ℕ) → option_and_then (λ (k : Container). Some k.document) (container_in o) ≡ Some name → is_open w name ≡ true
container_open w None sound name is = absurd (cc)
container_open w (Some (connection voice)) sound name is = absurd (cc)
container_open w (Some (container k)) sound name is = let same : k.document ≡ name = cc in subst (λ n. is_open w n ≡ true) same sound.open_is
container_open w (Some (roamer k)) sound name is = absurd (cc)
container_open w (Some used_up) sound name is = absurd (cc)

-- a connect reaches the document of the workload, or that of its connection
abbrev reached : VoiceState → List Act → Option (List ℕ)
reached v acts = option_or (slice_get (filter_map connects acts) 0) (document_name v)

abbrev Reaches : VoiceState → List Act → Type 0
Reaches v acts = (reached v acts ≡ Some work) ⊎ (reached v acts ≡ document_name v)

sent_so : (v : VoiceState) (moment : ℕ) → Reaches v (acts_of v connecting moment)
unfolding acts_of
sent_so v moment = subst (λ r. Reaches v (if is_used v then [] else read_acts v moment r)) (sym connect_spelled) (by v)
  where
    by : (v : VoiceState) → Reaches v (if is_used v then [] else read_acts v moment (Ok (heard.Connect work true (record { read = true; write = true; summary = true }) null)))
    by Fresh = inl refl
    by (Reading name next) = inr refl
    by (Writing name id next) = inr refl
    by Used = inr refl

sent_open : (w : World) (c : List ℕ) → IsSound w → is_open w work ≡ true → (name : List ℕ) → reached (voice_of w c) (acts_of (voice_of w c) connecting w.moment) ≡ Some name → is_open w name ≡ true
sent_open w c sound open_is name is = by (sent_so (voice_of w c) w.moment)
  where
    by : Reaches (voice_of w c) (acts_of (voice_of w c) connecting w.moment) → is_open w name ≡ true
    by (inl at) = let both : ◌≡◌ {A = Option (List ℕ)} (Some work) (Some name) = sym at ∙ is in let same : work ≡ name = cc in subst (λ n. is_open w n ≡ true) same open_is
    by (inr at) = voice_open w (get w.names c) (sound.names c) name (sym at ∙ is)

own_open : (w : World) → is_open w work ≡ true → (own name : List ℕ) → own ≡ work → ◌≡◌ {A = Option (List ℕ)} (Some own) (Some name) → is_open w name ≡ true
own_open w open_is own name at is = let same : own ≡ name = cc in subst (λ n. is_open w n ≡ true) (sym at ∙ same) open_is

about_open : (w : World) (step : Step) → IsOwnStep step → IsSound w → is_open w work ≡ true → (name : List ℕ) → about w step ≡ Some name → is_open w name ≡ true
about_open w (Send c text) own sound open_is name is = sent_open w c sound open_is name (subst (λ t. about w (Send c t) ≡ Some name) own is)
about_open w (Collect c) own sound open_is name is = voice_open w (get w.names c) (sound.names c) name is
about_open w (Scribe other) own sound open_is name is = own_open w open_is other name own is
about_open w (Checkpoint other) own sound open_is name is = own_open w open_is other name own is
about_open w (Restart other number) own sound open_is name is = own_open w open_is other name own is
about_open w (Load p other pick) own sound open_is name is = own_open w open_is other name own is
about_open w (Pump p) own sound open_is name is = container_open w (get w.names p) (sound.names p) name is
about_open w (Edit p (Ok edit)) own sound open_is name is = container_open w (get w.names p) (sound.names p) name is
about_open w (Summarize p) own sound open_is name is = container_open w (get w.names p) (sound.names p) name is
about_open w (Close c) own sound open_is name is = absurd own
about_open w (Reopen other) own sound open_is name is = absurd own
about_open w (Sweep other silence) own sound open_is name is = absurd own
about_open w (Count other) own sound open_is name is = absurd own
about_open w (Tasks other) own sound open_is name is = absurd own
about_open w (Edit p (Err fault)) own sound open_is name is = absurd own
about_open w (Beat p) own sound open_is name is = absurd own
about_open w (Show p) own sound open_is name is = absurd own
about_open w (Roam r other) own sound open_is name is = absurd own
about_open w (Say r op) own sound open_is name is = absurd own
about_open w (Lose r) own sound open_is name is = absurd own
about_open w (Back r) own sound open_is name is = absurd own
about_open w (Acked r) own sound open_is name is = absurd own

-- ---- what the documents have behind it

-- one entry at most is added to a document
effect_grows : (w : World) (name : List ℕ) (e : Effect) → Few e.entries → GrowsBy 1 w (changed e (Some name) w)
effect_grows w name e few q =
    subst (λ (d : Document). length d.raws ≤ length (document w q).raws + 1) (sym (document_inserted w.documents name (grown e (document w name)) q)) (by (bytes_eq q name) refl)
  where
    by : (b : Bool) → bytes_eq q name ≡ b → length (cond b (grown e (document w name)) (document w q)).raws ≤ length (document w q).raws + 1
    by true same =
        let at : q ≡ name = (bytes_eq-Decides q name).0 same in
        omega (arith, few, length-append (document w name).raws e.entries, ap (λ n. length (document w n).raws) at)
    by false other = omega arith

abbrev GrowsAt : World → List ℕ → World → Type 0
GrowsAt w q new = length (document new q).raws ≤ length (document w q).raws + 1

module _ (limits : Limits) (w : World) (step : Step) (own : IsOwnStep step) (sound : IsSound w) (open_is : is_open w work ≡ true) where
  place_grows : (q name : List ℕ) → about w step ≡ Some name → (b : Bool) → GrowsAt w q (if b then does (beyond limits w name step) None w else done_in limits (readied w name) name step).world
  place_grows q name is true = omega arith
  place_grows q name is false =
      subst (λ r. GrowsAt w q (done_in limits r name step).world) (sym (readied_same w name (about_open w step own sound open_is name is)))
      (effect_grows w name (effect limits w (document w name) step) (own_few limits step own w (document w name)) q)

  done_grows : (q : List ℕ) (name : Option (List ℕ)) → about w step ≡ name → GrowsAt w q (done_on limits w name step).world
  done_grows q None is = omega arith
  done_grows q (Some name) is = place_grows q name is (is_beyond w.opened name)

  pub step_grows : GrowsBy 1 w (behind_step limits w step)
  step_grows q = by (refusal w step)
    where
      by : (o : Option LineWhy) → GrowsAt w q (if is_some o then w else (done limits w step).world)
      by None = done_grows q (about w step) refl
      by (Some why) = omega arith

-- the first step opens the document: without an entry it has no client that could leave
nobody_joined : joined (ledger []) ≡ []
unfolding joined past.joined ever_joined past_of ledger
nobody_joined = refl

nobody_leaves : (moment : ℕ) (d : Document) → d.raws ≡ [] → farewells moment d ≡ []
nobody_leaves moment d is = ap (λ ids. map (λ id. Leave id moment) ids) (ap (λ raws. joined (ledger raws)) is ∙ nobody_joined)

readied_grows : (w : World) → (document w work).raws ≡ [] → (q : List ℕ) → length (document (readied w work) q).raws ≤ length (document w q).raws
readied_grows w empty q = by (is_open w work)
  where
    own : Document
    own = with_entries (farewells w.moment (document w work)) (document w work)

    none : length own.raws ≤ 0
    none = omega (arith, ap length empty, ap length (nobody_leaves w.moment (document w work) empty), length-append (document w work).raws (farewells w.moment (document w work)))

    at : (b : Bool) → length (cond b own (document w q)).raws ≤ length (document w q).raws
    at true = omega (arith, none)
    at false = omega arith

    by : (b : Bool) → length (document (if b then w else (record w { documents = insert w.documents work own; opened = w.opened ++ work ∷ [] })) q).raws ≤ length (document w q).raws
    by true = omega arith
    by false = subst (λ (d : Document). length d.raws ≤ length (document w q).raws) (sym (document_inserted w.documents work own q)) (at (bytes_eq q work))

pub first_grows : (limits : Limits) (w : World) → IsSound w → (is_open w work ≡ true) ⊎ IsNew w → GrowsBy 1 w (behind_step limits w (Load p work Empty))
first_grows limits w sound (inl open_is) = step_grows limits w (Load p work Empty) refl sound open_is
first_grows limits w sound (inr new) = λ q.
    let step = Load p work Empty in
    let r = readied w work in
    let ok : refusal w step ≡ None = ap refusal_as_new new.name in
    let there : behind_step limits w step ≡ (done_in limits r work step).world =
    ap (λ o. if is_some o then w else (done limits w step).world) ok ∙ ap (λ b. (if b then does (beyond limits w work step) None w else done_in limits r work step).world) new.within in
    subst (λ (v : World). length (document v q).raws ≤ length (document w q).raws + 1) (sym there)
    (omega (arith, readied_grows w new.no_entry q, effect_grows r work (effect limits r (document r work) step) (own_few limits step refl r (document r work)) q))

-- ---- a client's submission

pub entry_grows : (limits : Limits) (w : World) (client : ℕ) (raw : Raw) → GrowsBy 1 w (behind_entry limits w client raw)
entry_grows limits w client raw = subst (GrowsBy 1 w) (sym (entry_is limits w client raw _ refl)) (effect_grows w work (heard_so limits w client raw (entry_end limits (ledger_of (document w work)) raw)) few)
  where
    few : Few (heard_so limits w client raw (entry_end limits (ledger_of (document w work)) raw)).entries
    few = by (is_full limits.entries (ledger_of (document w work)) raw)
      where
        by : (b : Bool) → Few (heard_so limits w client raw (if b then end.FullNow else end.Entered (verdict (ledger_of (document w work)) raw))).entries
        by true = omega arith
        by false = omega arith
