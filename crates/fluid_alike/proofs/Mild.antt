-- The steps of a workload that neither ask for a summary nor answer one: what they add to the document, and whose name they change.
use Rattle.std.proofs.Common.{◌≡◌, ℕ, ◌+◌, ◌≤◌, arith, Bool, true, false, cond, if◌then◌else◌, List, [], ◌∷◌, ◌++◌, length, All, Option, Some, None, IfSome, Result, Ok, Err, bytes_eq, refl, sym, ap, subst, ◌∙◌, append-nil}
use Rattle.std.specs.Prelude.{is_some, nat_le, nat_lt, ⊤}
use Rattle.std.specs.FinMap.{FinMap, get, insert}
use Rattle.std.proofs.lemmas.List.Elements.{All-nil, All-cons}
use Rattle.std.proofs.lemmas.Slice.Eq.{bytes_eq-Decides}
use Rattle.json.specs.Json.{items, members, value}
use Rattle.json.specs.Lex.{lex, punctuate}
use Rattle.json.specs.Text.{content}
use Rattle.json.specs.Word.{after_number, word}
use Rattle.serde_json.specs.Read.{number_of}
use Rattle.fluid_json.specs.Spelled.{reaches, answer_within}
use Rattle.fluid_json.specs.Tree.{Tree, null}
use Rattle.fluid_table.specs.Table.{byte_order}
use Rattle.fluid_table.proofs.Places.{get_inserted}
use Rattle.fluid_types.specs.Ledger.{Ledger}
use Rattle.fluid_types.specs.Forms.{a_value, texts}
use Rattle.fluid_types.specs.Texts.{name_of}
use Rattle.fluid_types.specs.Names.{is_name, entry_name}
use Rattle.fluid_types.specs.declared.entries.Raw.{Raw}
use Rattle.fluid_types.specs.declared.entries.Raw.TheVariants.{Join, Leave, Submit, Report}
use Rattle.fluid_types.specs.declared.entries.Scopes.{Scopes}
use Rattle.fluid_types.specs.declared.entries.Offered.TheVariants.{Op}
use Rattle.fluid_rules.specs.declared.limits.Limits.{Limits}
use Rattle.fluid_codec.specs.Events.{connect_document, event, event_spelled}
use Rattle.fluid_codec.specs.declared.events.Event.TheVariants as heard
use Rattle.fluid_codec.specs.declared.replies.Reply.{Reply}
use Rattle.fluid_edits.specs.declared.edit.Edit.{Edit as AnEdit}
use Rattle.fluid_runtime.specs.Refused.{answer}
use Rattle.fluid_runtime.specs.declared.fault.EditFault.{EditFault}
use Rattle.fluid_steps.specs.declared.steps.Step.{Step}
use Rattle.fluid_steps.specs.declared.steps.Step.TheVariants.{Send, Collect, Close, Scribe, Checkpoint, Restart, Reopen, Sweep, Count, Tasks, Load, Pump, Edit, Beat, Summarize, Show, Roam, Say, Lose, Back, Acked}
use Rattle.fluid_steps.specs.declared.refusal.LineWhy.{LineWhy}
use Rattle.fluid_voice.specs.declared.states.VoiceState.{VoiceState}
use Rattle.fluid_voice.specs.declared.states.VoiceState.TheVariants.{Fresh, Reading, Writing, Used}
use Rattle.fluid_voice.specs.declared.actions.Act.{Act}
use Rattle.fluid_voice.specs.declared.actions.Act.TheVariants as act
use Rattle.fluid_voice.specs.declared.ends.ActEnd.{ActEnd}
use Rattle.fluid_voice.specs.declared.ends.ActEnd.TheVariants as end
use Rattle.fluid_voice.specs.Heard.{acts_of, read_acts}
use Rattle.fluid_voice.specs.States.{is_used}
use Rattle.fluid_voice.specs.Ends.{Outcome, outcome, is_beyond, entry_end, join_of}
use Rattle.fluid_voice.specs.Ends.Outcome.{ends, clashes}
use Rattle.fluid_transcript.specs.World.{Container, Name, World, Document, new_document, document, is_open, ledger_of, with_entries, farewells, Effect, says, raws_added, grown, changed, does, with_name}
use Rattle.fluid_transcript.specs.Connections.{Hearing, voice_of, hearing, found_by, behind_act, hear, effect_of}
use Rattle.fluid_transcript.specs.Documents.{checkpoint_of, checkpointed, stored}
use Rattle.fluid_transcript.specs.Lines.{full_line, large_line, stored_line}
use Rattle.fluid_transcript.specs.Containers.{all_scopes, joining, join_refusal, join_for, loading, loaded_as, pumped, visible, edited_by, submitted_as, entry_of}
use Rattle.fluid_transcript.specs.Steps.{refusal, about, effect, beyond, container_of, on_container, edit_effect}
use Rattle.fluid_transcript.specs.Transcript.{readied, done_in, done_on, done}
use Rattle.fluid_transcript.proofs.Sounds.{document_inserted}
use Rattle.fluid_transcript.proofs.Fitting.{length_ledger}
use Rattle.fluid_workload.specs.Working.{work, connecting, behind_step}
use Rattle.fluid_alike.proofs.Plain.{Plain}

abbrev pub one_if_join : Raw → ℕ
one_if_join (Join id scopes detail moment) = 1
one_if_join (Leave id moment) = 0
one_if_join (Submit id submission moment) = 0
one_if_join (Report summary found moment) = 0

-- how many are joins
abbrev pub joins_in : List Raw → ℕ
joins_in [] = 0
joins_in (raw ∷ raws) = one_if_join raw + joins_in raws

-- a join has the id that its place gives
abbrev pub IsNamedJoin : ℕ → Raw → Type 0
IsNamedJoin n (Join id scopes detail moment) = id ≡ entry_name n
IsNamedJoin n (Leave id moment) = ⊤
IsNamedJoin n (Submit id submission moment) = ⊤
IsNamedJoin n (Report summary found moment) = ⊤

-- ---- what an effect adds

-- behind so many entries at most one plain entry, a join where one may be, and no other name than this is changed
pub record IsMild (c : List ℕ) (joins n : ℕ) (e : Effect) : Type 0 where
  pub plain : All Plain e.entries
  pub few : length e.entries ≤ 1
  pub joining : joins_in e.entries ≤ joins
  pub placed : All (IsNamedJoin n) e.entries
  pub name : IfSome e.name (λ named. named.0 ≡ c)

none : All Plain []
none = All-nil Plain

one : (raw : Raw) → Plain raw → All Plain (raw ∷ [])
one raw h = All-cons Plain raw [] h none

-- nothing is entered
nothing : (c : List ℕ) (joins n : ℕ) (e : Effect) → e.entries ≡ [] → IfSome e.name (λ named. named.0 ≡ c) → IsMild c joins n e
nothing c joins n e is name = record {
  plain = subst (All Plain) (sym is) none;
  few = subst (λ (rs : List Raw). length rs ≤ 1) (sym is) (omega arith);
  joining = subst (λ rs. joins_in rs ≤ joins) (sym is) (omega arith);
  placed = subst (All (IsNamedJoin n)) (sym is) (All-nil (IsNamedJoin n));
  name = name;
}

-- a join is
one_join : (c : List ℕ) (n : ℕ) (e : Effect) (l : Ledger) (scopes : Scopes) (detail : Tree) (moment : ℕ) → e.entries ≡ join_of l scopes detail moment ∷ [] → length l ≡ n → IfSome e.name (λ named. named.0 ≡ c) → IsMild c 1 n e
one_join c n e l scopes detail moment is at name = record {
  plain = subst (All Plain) (sym is) (one (join_of l scopes detail moment) refl);
  few = subst (λ (rs : List Raw). length rs ≤ 1) (sym is) (omega arith);
  joining = subst (λ rs. joins_in rs ≤ 1) (sym is) (omega arith);
  placed = subst (All (IsNamedJoin n)) (sym is) (All-cons (IsNamedJoin n) (join_of l scopes detail moment) [] (ap entry_name at) (All-nil (IsNamedJoin n)));
  name = name;
}

-- ---- a connect

connect_spelled : event_spelled connecting ≡ Ok (heard.Connect work true (record { read = true; write = true; summary = true }) null)
unfolding is_name items members value lex punctuate content after_number word number_of reaches answer_within event connect_document a_value texts name_of
connect_spelled = refl

abbrev connect : ℕ → Act
connect moment = act.Connect work true (record { read = true; write = true; summary = true }) null moment

-- one act at most, which says something or connects
data Asks (moment : ℕ) : List Act → Type 0 where
  silent : Asks moment []
  speaks : (reply : Reply) → Asks moment (act.Say reply ∷ [])
  connects : Asks moment (connect moment ∷ [])

asks_so : (s : VoiceState) (moment : ℕ) → Asks moment (acts_of s connecting moment)
unfolding acts_of
asks_so s moment = subst (λ r. Asks moment (if is_used s then [] else read_acts s moment r)) (sym connect_spelled) (by s)
  where
    by : (s : VoiceState) → Asks moment (if is_used s then [] else read_acts s moment (Ok (heard.Connect work true (record { read = true; write = true; summary = true }) null)))
    by Fresh = connects
    by (Reading name next) = speaks _
    by (Writing name id next) = speaks _
    by Used = silent

module _ (limits : Limits) (opened : List (List ℕ)) (c : List ℕ) (d : Document) (h : Hearing) (at_first : h.entries ≡ []) where
  said_nothing : (reply : Reply) → (hear limits opened c d h (act.Say reply ∷ [])).entries ≡ []
  said_nothing reply = append-nil h.entries ∙ at_first

  found_all : length (found_by limits opened d h).ledger ≡ length d.raws
  found_all = length_ledger (d.raws ++ h.entries) ∙ ap (λ rs. length (d.raws ++ rs)) at_first ∙ ap length (append-nil d.raws)

  joined_so : (moment : ℕ) (o : Outcome) → IsMild c 1 (length d.raws) (effect_of c (behind_act c (found_by limits opened d h) (connect moment) h o))
  joined_so moment (ends (end.Joined id number)) =
      one_join c (length d.raws) _ (found_by limits opened d h).ledger all_scopes null moment (ap (λ rs. rs ++ raws_added (found_by limits opened d h).ledger (connect moment) (ends (end.Joined id number))) at_first) found_all refl
  joined_so moment (ends (end.Entered v)) =
      one_join c (length d.raws) _ (found_by limits opened d h).ledger all_scopes null moment (ap (λ rs. rs ++ raws_added (found_by limits opened d h).ledger (connect moment) (ends (end.Entered v))) at_first) found_all refl
  joined_so moment (ends end.Said) = nothing c 1 (length d.raws) _ (append-nil h.entries ∙ at_first) refl
  joined_so moment (ends (end.Told last)) = nothing c 1 (length d.raws) _ (append-nil h.entries ∙ at_first) refl
  joined_so moment (ends end.FullNow) = nothing c 1 (length d.raws) _ (append-nil h.entries ∙ at_first) refl
  joined_so moment (ends end.TooMany) = nothing c 1 (length d.raws) _ (append-nil h.entries ∙ at_first) refl
  joined_so moment (ends (end.Given reply)) = nothing c 1 (length d.raws) _ (append-nil h.entries ∙ at_first) refl
  joined_so moment (clashes id kept new) = nothing c 1 (length d.raws) _ at_first refl

  heard_so : (moment : ℕ) (acts : List Act) → Asks moment acts → IsMild c 1 (length d.raws) (effect_of c (hear limits opened c d h acts))
  heard_so moment _ silent = nothing c 1 (length d.raws) _ at_first refl
  heard_so moment _ (speaks reply) = nothing c 1 (length d.raws) _ (said_nothing reply) refl
  heard_so moment _ connects = joined_so moment (outcome (found_by limits opened d h) (connect moment))

-- ---- each step

-- whose name a step may change, and how many joins it may enter
abbrev pub subject : Step → List ℕ
subject (Send c text) = c
subject (Collect c) = c
subject (Load p name pick) = p
subject (Pump p) = p
subject (Edit p op) = p
subject step = []

abbrev pub joins_of : Step → ℕ
joins_of (Send c text) = 1
joins_of (Load p name pick) = 1
joins_of step = 0

abbrev pub IsMildStep : Step → Type 0
IsMildStep (Send c text) = text ≡ connecting
IsMildStep (Collect c) = ⊤
IsMildStep (Checkpoint name) = ⊤
IsMildStep (Restart name number) = ⊤
IsMildStep (Load p name pick) = ⊤
IsMildStep (Pump p) = ⊤
IsMildStep (Edit p (Ok edit)) = ⊤
IsMildStep step = ⊥

stored_mild : (limits : Limits) (w : World) (d : Document) (name : List ℕ) (bytes : ℕ) → IsMild [] 0 (length d.raws) (stored limits w d name bytes)
stored_mild limits w d name bytes = by (nat_lt limits.bytes bytes)
  where
    by : (b : Bool) → IsMild [] 0 (length d.raws) (if b then says w (large_line name bytes ∷ []) else (record (says w (stored_line name (length d.checkpoints) (length d.raws) ∷ [])) { checkpoints = length d.raws ∷ [] }))
    by true = nothing [] 0 (length d.raws) _ refl tt
    by false = nothing [] 0 (length d.raws) _ refl tt

checkpoint_mild : (limits : Limits) (w : World) (d : Document) (name : List ℕ) → IsMild [] 0 (length d.raws) (checkpointed limits w d name)
checkpoint_mild limits w d name = by (nat_le limits.checkpoints (length d.checkpoints))
  where
    by : (b : Bool) → IsMild [] 0 (length d.raws) (if b then says w (full_line name ∷ []) else stored limits w d name (length (checkpoint_of (ledger_of d))))
    by true = nothing [] 0 (length d.raws) _ refl tt
    by false = stored_mild limits w d name (length (checkpoint_of (ledger_of d)))

load_mild : (limits : Limits) (w : World) (d : Document) (p name : List ℕ) (pick : _) → IsMild p 1 (length d.raws) (loaded_as limits w d p name (loading limits w d name pick))
load_mild limits w d p name pick = by (is_some (join_refusal (joining limits w (ledger_of d)))) refl
  where
    by : (b : Bool) → is_some (join_refusal (joining limits w (ledger_of d))) ≡ b → IsMild p 1 (length d.raws) (loaded_as limits w d p name (loading limits w d name pick))
    by true is = nothing p 1 (length d.raws) _ (ap (λ b. if b then [] else join_for w (ledger_of d) ∷ []) is) refl
    by false is = one_join p (length d.raws) _ (ledger_of d) all_scopes null w.moment (ap (λ b. if b then [] else join_for w (ledger_of d) ∷ []) is) (length_ledger d.raws) refl

module _ (limits : Limits) (w : World) (l : Ledger) (n : ℕ) (p : List ℕ) (k : Container) (edit : AnEdit) where
  -- an op is plain, and joins nobody
  record IsOp (entries : List Raw) : Type 0 where
    few : length entries ≤ 1
    plain : All Plain entries
    joining : joins_in entries ≤ 0
    placed : All (IsNamedJoin n) entries

  no_op : IsOp []
  no_op = record { few = omega arith; plain = none; joining = omega arith; placed = All-nil (IsNamedJoin n) }

  op_so : (contents : Tree) (out : ActEnd) → IsOp (submitted_as l (entry_of w l k Op contents) out).entries
  op_so contents (end.Entered v) = record {
    few = omega arith;
    plain = one (entry_of w l k Op contents) refl;
    joining = omega arith;
    placed = All-cons (IsNamedJoin n) (entry_of w l k Op contents) [] tt (All-nil (IsNamedJoin n));
  }
  op_so contents (end.Joined id number) = no_op
  op_so contents end.Said = no_op
  op_so contents (end.Told last) = no_op
  op_so contents end.FullNow = no_op
  op_so contents end.TooMany = no_op
  op_so contents (end.Given reply) = no_op

  answered_mild : (r : Result Tree EditFault) → IsMild p 0 n (edited_by limits w l p k edit r)
  answered_mild (Ok contents) =
      let own = op_so contents (entry_end limits l (entry_of w l k Op contents)) in
      record { plain = own.plain; few = own.few; joining = own.joining; placed = own.placed; name = refl }
  answered_mild (Err fault) = nothing p 0 n _ refl tt

on_mild : (p : List ℕ) (joins n : ℕ) (w : World) (o : Option Container) (f : Container → Effect) → ((k : Container) → IsMild p joins n (f k)) → IsMild p joins n (on_container w o f)
on_mild p joins n w None f each = nothing p joins n _ refl tt
on_mild p joins n w (Some k) f each = each k

pub mild_effect : (limits : Limits) (step : Step) → IsMildStep step → (r : World) (d : Document) → IsMild (subject step) (joins_of step) (length d.raws) (effect limits r d step)
mild_effect limits (Send c text) is r d =
    subst (λ t. IsMild c 1 (length d.raws) (effect limits r d (Send c t))) (sym is) (heard_so limits r.opened c d (hearing r c) refl r.moment (acts_of (voice_of r c) connecting r.moment) (asks_so (voice_of r c) r.moment))
mild_effect limits (Collect c) is r d = nothing c 0 (length d.raws) _ refl refl
mild_effect limits (Checkpoint name) is r d = checkpoint_mild limits r d name
mild_effect limits (Restart name number) is r d = nothing [] 0 (length d.raws) _ refl tt
mild_effect limits (Load p name pick) is r d = load_mild limits r d p name pick
mild_effect limits (Pump p) is r d = on_mild p 0 (length d.raws) r (container_of r p) (pumped r d p) (λ k. nothing p 0 (length d.raws) _ refl refl)
mild_effect limits (Edit p (Ok edit)) is r d =
    on_mild p 0 (length d.raws) r (container_of r p) (edit_effect limits r d p (Ok edit)) (λ k. answered_mild limits r (ledger_of d) (length d.raws) p k edit (answer (visible (ledger_of d) k) edit))
mild_effect limits (Edit p (Err fault)) is r d = absurd is
mild_effect limits (Scribe name) is r d = absurd is
mild_effect limits (Close c) is r d = absurd is
mild_effect limits (Reopen name) is r d = absurd is
mild_effect limits (Sweep name silence) is r d = absurd is
mild_effect limits (Count name) is r d = absurd is
mild_effect limits (Tasks name) is r d = absurd is
mild_effect limits (Beat p) is r d = absurd is
mild_effect limits (Summarize p) is r d = absurd is
mild_effect limits (Show p) is r d = absurd is
mild_effect limits (Roam q name) is r d = absurd is
mild_effect limits (Say q op) is r d = absurd is
mild_effect limits (Lose q) is r d = absurd is
mild_effect limits (Back q) is r d = absurd is
mild_effect limits (Acked q) is r d = absurd is

-- where as many documents as may be are open
mild_beyond : (limits : Limits) (name : List ℕ) (step : Step) → IsMildStep step → (r : World) → IfSome (beyond limits r name step).name (λ named. named.0 ≡ subject step)
mild_beyond limits name (Send c text) is r = refl
mild_beyond limits name (Collect c) is r = tt
mild_beyond limits name (Checkpoint other) is r = tt
mild_beyond limits name (Restart other number) is r = tt
mild_beyond limits name (Load p other pick) is r = refl
mild_beyond limits name (Pump p) is r = tt
mild_beyond limits name (Edit p (Ok edit)) is r = tt
mild_beyond limits name (Edit p (Err fault)) is r = absurd is
mild_beyond limits name (Scribe other) is r = absurd is
mild_beyond limits name (Close c) is r = absurd is
mild_beyond limits name (Reopen other) is r = absurd is
mild_beyond limits name (Sweep other silence) is r = absurd is
mild_beyond limits name (Count other) is r = absurd is
mild_beyond limits name (Tasks other) is r = absurd is
mild_beyond limits name (Beat p) is r = absurd is
mild_beyond limits name (Summarize p) is r = absurd is
mild_beyond limits name (Show p) is r = absurd is
mild_beyond limits name (Roam q other) is r = absurd is
mild_beyond limits name (Say q op) is r = absurd is
mild_beyond limits name (Lose q) is r = absurd is
mild_beyond limits name (Back q) is r = absurd is
mild_beyond limits name (Acked q) is r = absurd is

-- ---- a world behind one

-- the document has at most one plain entry more, and only this name changed
pub record GoesMildly (c : List ℕ) (joins : ℕ) (old new : World) : Type 0 where
  pub more : List Raw
  pub is : (document new work).raws ≡ (document old work).raws ++ more
  pub plain : All Plain more
  pub few : length more ≤ 1
  pub joining : joins_in more ≤ joins
  pub placed : All (IsNamedJoin (length (document old work).raws)) more
  pub names : (q : List ℕ) → bytes_eq q c ≡ false → get new.names q ≡ get old.names q

-- what is open stays as it was where another document is readied
pub readied_document : (w : World) (name q : List ℕ) → is_open w q ≡ true → document (readied w name) q ≡ document w q
readied_document w name q open_is = by (is_open w name) refl
  where
    by : (b : Bool) → is_open w name ≡ b → document (if b then w else (record w { documents = insert w.documents name (with_entries (farewells w.moment (document w name)) (document w name)); opened = w.opened ++ name ∷ [] })) q ≡ document w q
    by true is = refl
    by false is = document_inserted w.documents name (with_entries (farewells w.moment (document w name)) (document w name)) q ∙ other (bytes_eq q name) refl
      where
        other : (b : Bool) → bytes_eq q name ≡ b → cond b (with_entries (farewells w.moment (document w name)) (document w name)) (document w q) ≡ document w q
        other true same = absurd (let two : true ≡ false = sym open_is ∙ ap (is_open w) ((bytes_eq-Decides q name).0 same) ∙ is in cc)
        other false apart = refl

readied_names : (w : World) (name : List ℕ) → (readied w name).names ≡ w.names
readied_names w name = by (is_open w name)
  where
    by : (b : Bool) → (if b then w else (record w { documents = insert w.documents name (with_entries (farewells w.moment (document w name)) (document w name)); opened = w.opened ++ name ∷ [] })).names ≡ w.names
    by true = refl
    by false = refl

other_names : (names : FinMap byte_order Name) (c : List ℕ) (o : Option (List ℕ × Name)) → IfSome o (λ named. named.0 ≡ c) → (q : List ℕ) → bytes_eq q c ≡ false → get (with_name o names) q ≡ get names q
other_names names c None is q other = refl
other_names names c (Some named) is q other =
    get_inserted names named.0 named.1 q ∙ ap (λ b. cond b (Some named.1) (get names q)) (ap (bytes_eq q) is ∙ other)

module _ (limits : Limits) (w : World) (step : Step) (mild : IsMildStep step) (open_is : is_open w work ≡ true) where
  -- the document stays, and so do other names
  stays_so : (new : World) → document new work ≡ document w work → ((q : List ℕ) → bytes_eq q (subject step) ≡ false → get new.names q ≡ get w.names q) → GoesMildly (subject step) (joins_of step) w new
  stays_so new same names = record {
    more = [];
    is = ap (λ (d : Document). d.raws) same ∙ sym (append-nil (document w work).raws);
    plain = none;
    few = omega arith;
    joining = omega arith;
    placed = All-nil (IsNamedJoin (length (document w work).raws));
    names = names;
  }

  in_goes : (name : List ℕ) → GoesMildly (subject step) (joins_of step) w (done_in limits (readied w name) name step).world
  in_goes name = by (bytes_eq work name) refl
    where
      r : World
      r = readied w name

      e : Effect
      e = effect limits r (document r name) step

      own : IsMild (subject step) (joins_of step) (length (document r name).raws) e
      own = mild_effect limits step mild r (document r name)

      new : World
      new = changed e (Some name) r

      names : (q : List ℕ) → bytes_eq q (subject step) ≡ false → get new.names q ≡ get w.names q
      names q other = other_names r.names (subject step) e.name own.name q other ∙ ap (λ n. get n q) (readied_names w name)

      there : document new work ≡ cond (bytes_eq work name) (grown e (document r name)) (document r work)
      there = document_inserted r.documents name (grown e (document r name)) work

      by : (b : Bool) → bytes_eq work name ≡ b → GoesMildly (subject step) (joins_of step) w new
      by false other = stays_so new (there ∙ ap (λ b. cond b (grown e (document r name)) (document r work)) other ∙ readied_document w name work open_is) names
      by true same = record {
        more = e.entries;
        is =
            ap (λ (d : Document). d.raws) (there ∙ ap (λ b. cond b (grown e (document r name)) (document r work)) same)
            ∙ ap (λ (d : Document). d.raws ++ e.entries) (ap (document r) (sym ((bytes_eq-Decides work name).0 same)) ∙ readied_document w name work open_is);
        plain = own.plain;
        few = own.few;
        joining = own.joining;
        placed =
            subst (λ (d : Document). All (IsNamedJoin (length d.raws)) e.entries)
            (ap (document r) (sym ((bytes_eq-Decides work name).0 same)) ∙ readied_document w name work open_is) own.placed;
        names = names;
      }

  on_goes : (name : Option (List ℕ)) → GoesMildly (subject step) (joins_of step) w (done_on limits w name step).world
  on_goes None = stays_so _ refl (other_names w.names (subject step) (effect limits w new_document step).name (mild_effect limits step mild w new_document).name)
  on_goes (Some name) = by (is_beyond w.opened name)
    where
      by : (b : Bool) → GoesMildly (subject step) (joins_of step) w (if b then does (beyond limits w name step) None w else done_in limits (readied w name) name step).world
      by true = stays_so _ refl (other_names w.names (subject step) (beyond limits w name step).name (mild_beyond limits name step mild w))
      by false = in_goes name

  pub mild_goes : GoesMildly (subject step) (joins_of step) w (behind_step limits w step)
  mild_goes = by (refusal w step)
    where
      by : (o : Option LineWhy) → GoesMildly (subject step) (joins_of step) w (if is_some o then w else (done limits w step).world)
      by None = on_goes (about w step)
      by (Some why) = stays_so w refl (λ q other. refl)
