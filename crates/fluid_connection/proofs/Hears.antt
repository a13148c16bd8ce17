-- What comes of a text, as a connection's contract says it.
use Rattle.std.proofs.Common.{◌≡◌, ◌∙◌, inl, ℕ, ◌<◌, ◌≤◌, true, false, List, [], ◌∷◌, ◌++◌, length, All, Option, Some, None, option_map, append-nil, length-append, refl, sym, ap, subst, arith}
use Rattle.std.proofs.lemmas.List.Elements.{All-head, All-tail, All-nil, All-append}
use Rattle.fluid_turn.specs.declared.view.Numbered.{Numbered}
use Rattle.fluid_turn.specs.Entries.{IsPrefix, entries}
use Rattle.fluid_turn.proofs.Lists.{entries-append}
use Rattle.fluid_types.specs.Ledger.{order}
use Rattle.fluid_types.proofs.Ledgers.{order-append}
use Rattle.fluid_types.specs.Forms.{largest}
use Rattle.fluid_store.specs.Held.{Held}
use Rattle.fluid_store.specs.Storing.{Storing}
use Rattle.fluid_store.specs.declared.fault.StoreFault.TheVariants as store
use Rattle.fluid_lane.specs.declared.steps.Step.{Step}
use Rattle.fluid_lane.specs.Steps.{ledger}
use Rattle.fluid_lane.proofs.Listed.{ledger-append}
use Rattle.fluid_codec.specs.declared.replies.Reply.{Reply}
use Rattle.fluid_doors.specs.Terms.{Doorway}
use Rattle.fluid_doors.specs.Passing.{APass}
use Rattle.fluid_service.specs.Visiting.{Visiting}
use Rattle.fluid_service.specs.Keys.{AKey}
use Rattle.fluid_voice.specs.declared.states.VoiceState.{VoiceState}
use Rattle.fluid_voice.specs.declared.states.VoiceState.TheVariants.{Fresh, Reading, Writing, Used}
use Rattle.fluid_voice.specs.declared.actions.Act.{Act}
use Rattle.fluid_voice.specs.declared.actions.Act.TheVariants as act
use Rattle.fluid_voice.specs.declared.ends.ActEnd.{ActEnd}
use Rattle.fluid_voice.specs.States.{document_name, is_connected, is_used, next_number}
use Rattle.fluid_voice.specs.Heard.{acts_of}
use Rattle.fluid_voice.specs.Suits.{Suits}
use Rattle.fluid_voice.specs.Replies.{state_after, state_behind, replies_to, replies_behind}
use Rattle.fluid_voice.specs.Laws.{ConnectedStay, RepliesAreNoEvents}
use Rattle.fluid_voice.specs.Feed.{is_event}
use Rattle.fluid_ends.specs.declared.fault.TalkFault.{TalkFault}
use Rattle.fluid_ends.specs.declared.fault.TalkFault.TheVariants.{Door, Lane, Delta, Store, NoMemory}
use Rattle.fluid_talk.specs.declared.heard.Heard.{Heard}
use Rattle.fluid_talk.specs.Talking.{Knowing, Talking, Goes, order_of, number_behind_last}
use Rattle.fluid_talk.specs.Doing.{Did, acts_in, ended, held_after, AreDone}
use Rattle.fluid_talk.specs.Hearing.{KeyBehind, HearsApart, HoldsWith, HoldsBehind, LeavesStore, Does, AreReplies, Hears}
use Rattle.fluid_talk.specs.Shelves.{KeepsKey}
use Rattle.fluid_connection.specs.declared.telling.Answered.{Answered as ATold}
use Rattle.fluid_connection.specs.Knowing.{knowing}
use Rattle.fluid_connection.specs.Talked.{Talked, IsTalk, pass_of}
use Rattle.fluid_connection.specs.Telling.{no_counts, with_ends}
use Rattle.fluid_connection.specs.Running.{AreSubmissions, EntersText}
use Rattle.fluid_connection.specs.Hearing.{AreAskedApart, HearsActs, HearsOther, IsHeardOf}
use Rattle.fluid_connection.proofs.Running.{goes_nowhere, memory_cause}
use Rattle.fluid_connection.proofs.Choosing.{not_two}
use Rattle.fluid_connection.proofs.Questions.{same_option}

false_true : {A : Type 0} → false ≡ true → A
false_true same = cc

-- ---- orders that go on

order_longer : (a b : List (Numbered Step)) → IsPrefix a b → length (order_of a) ≤ length (order_of b)
order_longer a b prefix =
    let same : order_of b ≡ order_of a ++ order (ledger (entries prefix.0)) =
    ap order_of prefix.1 ∙ ap (λ l. order (ledger l)) (entries-append a prefix.0)
    ∙ ap order (ledger-append (entries a) (entries prefix.0)) ∙ order-append (ledger (entries a)) (ledger (entries prefix.0)) in
    omega (arith, ap length same ∙ length-append (order_of a) (order (ledger (entries prefix.0))))

pub behind_later : (a b : List (Numbered Step)) → IsPrefix a b → number_behind_last a ≤ number_behind_last b
behind_later a b prefix = omega (arith, order_longer a b prefix)

-- a connected one with a later visit of its document
pub talk_goes : (t u : Talked) (added : List Step) → IsTalk t → u.voice ≡ t.voice → Goes (pass_of t.visit) (pass_of u.visit) added
    → (length (pass_of t.visit).seen ≤ largest → length (pass_of u.visit).seen ≤ largest) → IsTalk u
talk_goes t u added is same goes few = record {
  named = λ on. goes.same.name ∙ is.named (was on) ∙ ap document_name (sym same);
  first = λ on. subst (λ s. 0 < next_number s) (sym same) (is.first (was on));
  next = λ on told. omega (
    arith,
    subst (λ s. next_number s ≤ number_behind_last (pass_of t.visit).seen) (sym same) (is.next (was on) (sym goes.same.told ∙ told)),
    behind_later (pass_of t.visit).seen (pass_of u.visit).seen goes.seen,
  );
  few = λ on. few (is.few (was on));
}
  where
    was : is_connected u.voice ≡ true → is_connected t.voice ≡ true
    was on = ap is_connected (sym same) ∙ on

-- ---- voices

unused_connected : (s : VoiceState) → is_connected s ≡ true → is_used s ≡ false
unused_connected Fresh on = false_true on
unused_connected (Reading name next) on = refl
unused_connected (Writing name id next) on = refl
unused_connected Used on = false_true on

stays_behind : (s : VoiceState) (done : List Did) (rest : List Act) → All (λ a. (end : ActEnd) → state_after s a end ≡ s) (acts_in done ++ rest)
    → s ≡ state_behind s (ended done)
stays_behind s [] rest all = refl
stays_behind s (d ∷ done) rest all =
    subst (λ t. s ≡ state_behind t (ended done)) (sym (All-head (λ a. (end : ActEnd) → state_after s a end ≡ s) _ _ all d.end))
    (stays_behind s done rest (All-tail (λ a. (end : ActEnd) → state_after s a end ≡ s) _ _ all))

abbrev NoEvents : List Reply → Type 0
NoEvents replies = All (λ reply. is_event reply ≡ false) replies

abbrev BringsNone : VoiceState → Act → Type 0
BringsNone s a = (end : ActEnd) → Suits a end → NoEvents (replies_to s a end)

-- of one that stays where it is
no_events : (s : VoiceState) (done : List Did) (rest : List Act) → AreDone done → All (λ a. (end : ActEnd) → state_after s a end ≡ s) (acts_in done ++ rest)
    → All (BringsNone s) (acts_in done ++ rest) → NoEvents (replies_behind s (ended done))
no_events s [] rest are_done stays all = All-nil (λ reply. is_event reply ≡ false)
no_events s (d ∷ done) rest are_done stays all =
    All-append (λ reply. is_event reply ≡ false) (replies_to s d.act d.end) (replies_behind (state_after s d.act d.end) (ended done))
    (All-head (BringsNone s) _ _ all d.end are_done.0.suits)
    (subst (λ t. NoEvents (replies_behind t (ended done))) (sym (All-head (λ a. (end : ActEnd) → state_after s a end ≡ s) _ _ stays d.end))
    (no_events s done rest are_done.1 (All-tail (λ a. (end : ActEnd) → state_after s a end ≡ s) _ _ stays) (All-tail (BringsNone s) _ _ all)))

-- ---- what is heard

module _ (s t : Talking) (before now : Storing) (text : List ℕ) (moment : ℕ) (told : ATold) (fault : Option TalkFault) (h : Heard) (is : IsHeardOf told fault h) where
  counts_are : (done : List Did) → told.counts ≡ with_ends no_counts (ended done) → Does s t before now text moment done fault
      → AreReplies fault (replies_behind s.voice (ended done)) told.replies.items → Hears s t before now text moment h
  counts_are done counts does said = record {
    done = done;
    heard = record {
      does = subst (λ f. Does s t before now text moment done f) (sym is.fault_is) does;
      replies = subst (λ rs. AreReplies h.fault (replies_behind s.voice (ended done)) rs) (sym is.replies)
          (subst (λ f. AreReplies f (replies_behind s.voice (ended done)) told.replies.items) (sym is.fault_is) said);
      sequenced = omega (arith, is.sequenced, ap (λ c. c.sequenced) counts);
      dropped = omega (arith, is.dropped, ap (λ c. c.dropped) counts);
      nacked = omega (arith, is.nacked, ap (λ c. c.nacked) counts);
      absorbed = omega (arith, is.absorbed, ap (λ c. c.absorbed) counts);
    };
  }

  -- by one that is connected
  pub hears_connected : ConnectedStay → RepliesAreNoEvents → (acts : List Act) → acts ≡ acts_of s.voice text moment → is_connected s.voice ≡ true → t.voice ≡ s.voice → t.key ≡ s.key
      → HearsActs s.voice s.pass t.pass before now acts told fault → Hears s t before now text moment h
  hears_connected stay none acts asked on voice key heard =
      let does = heard.does in
      let all : acts_of s.voice text moment ≡ acts_in heard.done ++ does.rest = sym asked ∙ does.asked in
      let stays = subst (λ l. All (λ a. (end : ActEnd) → state_after s.voice a end ≡ s.voice) l) all (stay s.voice text moment on) in
      let brings = subst (λ l. All (BringsNone s.voice) l) all (none s.voice text moment) in
      counts_are heard.done heard.counts (record {
        rest = does.rest;
        asked = all;
        whole = does.whole;
        cause = does.cause;
        are_done = does.are_done;
        full = does.full;
        voice = voice ∙ stays_behind s.voice heard.done does.rest stays;
        unused = ap is_used voice ∙ unused_connected s.voice on;
        no_events = no_events s.voice heard.done does.rest does.are_done stays brings;
        connected = λ _. record { voice = voice; goes = does.goes; found = does.found; answered = does.answered; key = key };
        apart = λ off. false_true (sym off ∙ on);
        store = subst (λ l. LeavesStore before now l (acts_in heard.done) does.rest fault) asked does.store;
      }) does.said

-- ---- by one that isn't

not_of_store : (acts rest : List Act) → AreAskedApart (acts ++ rest) → (held : Held) → held_after held acts ≡ held
not_of_store [] rest is held = refl
not_of_store (act.Say reply ∷ []) rest is held = refl
not_of_store (act.Connect name write scopes detail moment ∷ []) rest is held = refl
not_of_store (act.Enter raw ∷ []) rest is held = refl
not_of_store (act.Deltas from to ∷ []) rest is held = refl
not_of_store (act.Summary asked ∷ []) rest is held = refl
not_of_store (act.GetObject id ∷ []) rest is held = refl
not_of_store (act.PutObject bytes ∷ []) [] is held = absurd is
not_of_store (act.PutObject bytes ∷ []) (b ∷ rest) is held = absurd is
not_of_store (a ∷ b ∷ acts) rest is held = absurd (not_two a b (acts ++ rest) is)

holds_same : (s : Storing) (done rest : List Act) → AreAskedApart (done ++ rest) → HoldsWith done s s
holds_same s done rest is = by s.content
  where
    by : (o : Option Held) → o ≡ option_map (λ held. held_after held done) o
    by None = refl
    by (Some held) = ap Some (sym (not_of_store done rest is held))

holds_by : (s : Storing) (done rest : List Act) (fault : Option TalkFault) → HoldsWith done s s → HoldsBehind fault s s done rest
holds_by s done rest None same = same
holds_by s done rest (Some NoMemory) same = same
holds_by s done rest (Some (Door f)) same = same
holds_by s done rest (Some (Lane f)) same = same
holds_by s done rest (Some (Delta f)) same = same
holds_by s done [] (Some (Store (store.StoreFailed note))) same = same
holds_by s done (a ∷ rest) (Some (Store (store.StoreFailed note))) same = inl same
holds_by s done rest (Some (Store (store.Clash id kept new))) same = same
holds_by s done rest (Some (Store (store.Missing id))) same = same
holds_by s done rest (Some (Store (store.BadObject id place))) same = same
holds_by s done rest (Some (Store (store.Tree f))) same = same
holds_by s done rest (Some (Store (store.NoPath path))) same = same
holds_by s done rest (Some (Store store.NoMemory)) same = same

events_one : (s : VoiceState) (done : List Did) (rest : List Act) → AreAskedApart (acts_in done ++ rest) → AreDone done → All (BringsNone s) (acts_in done ++ rest) → NoEvents (replies_behind s (ended done))
events_one s [] rest apart are_done all = All-nil (λ reply. is_event reply ≡ false)
events_one s (d ∷ []) rest apart are_done all =
    All-append (λ reply. is_event reply ≡ false) (replies_to s d.act d.end) [] (All-head (BringsNone s) _ _ all d.end are_done.0.suits) (All-nil (λ reply. is_event reply ≡ false))
events_one s (d ∷ e ∷ done) rest apart are_done all = absurd (not_two d.act e.act (acts_in done ++ rest) apart)

module _ (s t : Talking) (before : Storing) (text : List ℕ) (moment : ℕ) (told : ATold) (fault : Option TalkFault) (h : Heard) (is : IsHeardOf told fault h) where
  pub hears_apart : RepliesAreNoEvents → (acts : List Act) → acts ≡ acts_of s.voice text moment → AreAskedApart acts → is_connected s.voice ≡ false
      → HearsOther s t acts told fault → Hears s t before before text moment h
  hears_apart none acts asked apart off heard =
      let all : acts_of s.voice text moment ≡ acts_in heard.done ++ heard.rest = sym asked ∙ heard.asked in
      let alone = subst AreAskedApart heard.asked apart in
      counts_are s t before before text moment told fault h is heard.done heard.counts (record {
        rest = heard.rest;
        asked = all;
        whole = heard.whole;
        cause = heard.cause before before;
        are_done = heard.are_done;
        full = heard.full;
        voice = heard.voice;
        unused = heard.unused;
        no_events = events_one s.voice heard.done heard.rest alone heard.are_done (subst (λ l. All (BringsNone s.voice) l) all (none s.voice text moment));
        connected = λ on. false_true (sym off ∙ on);
        apart = λ _. subst (λ l. HearsApart s t before l heard.done fault) asked (heard.apart before);
        store = record {
          later = omega arith;
          told = refl;
          holds = holds_by before (acts_in heard.done) heard.rest fault (holds_same before (acts_in heard.done) heard.rest alone);
          untouched = λ _. refl;
        };
      }) heard.said

  -- its acts found no memory
  pub hears_nothing : told.replies.items ≡ [] → told.counts ≡ no_counts → fault ≡ Some NoMemory → t ≡ s → is_used s.voice ≡ false → Hears s t before before text moment h
  hears_nothing replies counts lost same fresh =
      subst (λ u. Hears s u before before text moment h) (sym same)
      (counts_are s s before before text moment told fault h is [] counts (subst (λ f. Does s s before before text moment [] f) (sym lost) (record {
        rest = acts_of s.voice text moment;
        asked = refl;
        whole = λ none. absurd (some_none none);
        cause = memory_cause s.pass before before (acts_of s.voice text moment);
        are_done = tt;
        full = tt;
        voice = refl;
        unused = fresh;
        no_events = All-nil (λ reply. is_event reply ≡ false);
        connected = λ on. record {
          voice = refl;
          goes = goes_nowhere s.pass;
          found = ([], sym (append-nil s.pass.seen));
          answered = tt;
          key = refl;
        };
        apart = λ off. record {
          reached = None;
          does = record { apart = off; pass = refl; handed = refl; nothing = refl; key = keeps (acts_of s.voice text moment) };
          ends = tt;
          cause = tt;
        };
        store = record { later = omega arith; told = refl; holds = same_option before.content; untouched = λ _. refl };
      })) (subst (λ rs. AreReplies fault [] rs) (sym replies) (subst (λ f. AreReplies f [] []) (sym lost) ([], refl))))
    where
      some_none : ◌≡◌ {A = Option TalkFault} (Some NoMemory) None → ⊥
      some_none same = cc

      kept : KeepsKey s.key s.key
      kept = record { same = record { limits = refl; told = refl; number = refl }; seen = ([], sym (append-nil s.key.seen)); mine = refl }

      keeps : (acts : List Act) → KeyBehind acts [] (Some NoMemory) s.key s.key
      keeps [] = kept
      keeps (act.Connect name write scopes detail moment ∷ acts) = kept
      keeps (act.Say reply ∷ acts) = kept
      keeps (act.Enter raw ∷ acts) = kept
      keeps (act.Deltas from to ∷ acts) = kept
      keeps (act.Summary asked ∷ acts) = kept
      keeps (act.GetObject id ∷ acts) = kept
      keeps (act.PutObject bytes ∷ acts) = kept

-- ---- entries of a text

subs_hold : (acts rest : List Act) → AreSubmissions (acts ++ rest) → (held : Held) → held_after held acts ≡ held
subs_hold [] rest subs held = refl
subs_hold (act.Enter raw ∷ acts) rest subs held = subs_hold acts rest subs.1 held
subs_hold (act.Say reply ∷ acts) rest subs held = absurd subs.0
subs_hold (act.Connect name write scopes detail moment ∷ acts) rest subs held = absurd subs.0
subs_hold (act.Deltas from to ∷ acts) rest subs held = absurd subs.0
subs_hold (act.Summary asked ∷ acts) rest subs held = absurd subs.0
subs_hold (act.GetObject id ∷ acts) rest subs held = absurd subs.0
subs_hold (act.PutObject bytes ∷ acts) rest subs held = absurd subs.0

subs_same : (s : Storing) (done rest : List Act) → AreSubmissions (done ++ rest) → HoldsWith done s s
subs_same s done rest is = by s.content
  where
    by : (o : Option Held) → o ≡ option_map (λ held. held_after held done) o
    by None = refl
    by (Some held) = ap Some (sym (subs_hold done rest is held))

-- of the store nothing is asked
pub hears_entries : (s : VoiceState) (p q : Knowing) (store : Storing) (acts : List Act) (told : ATold) (fault : Option TalkFault) → AreSubmissions acts → EntersText s p q acts told fault
    → HearsActs s p q store store acts told fault
hears_entries s p q store acts told fault subs h =
    let d = h.does in
    record {
      done = h.done;
      does = record {
        rest = d.rest;
        asked = d.asked;
        whole = d.whole;
        cause = d.cause store store;
        are_done = d.are_done;
        full = d.full_stays;
        goes = d.goes;
        found = d.found;
        answered = d.answered store;
        said = d.told;
        store = record {
          later = omega arith;
          told = refl;
          holds = holds_by store (acts_in h.done) d.rest fault (subs_same store (acts_in h.done) d.rest (subst AreSubmissions d.asked subs));
          untouched = λ _. refl;
        };
      };
      counts = h.counts;
    }

-- ---- a visit behind them

pub visit_hears : (s : VoiceState) (visit now : Visiting) (door : Doorway) (p q : APass) (a b : Storing) (acts : List Act) (told : ATold) (fault : Option TalkFault) → door ≡ visit.door → p ≡ visit.pass
    → now ≡ record { door = door; pass = q } → HearsActs s (knowing door.name p) (knowing door.name q) a b acts told fault
    → HearsActs s (knowing visit.door.name visit.pass) (knowing now.door.name now.pass) a b acts told fault
visit_hears s visit now door p q a b acts told fault is_door is_pass is_now h =
    subst (λ n. HearsActs s (knowing visit.door.name visit.pass) (knowing n.door.name n.pass) a b acts told fault) (sym is_now)
    (subst (λ d. HearsActs s (knowing d.name visit.pass) (knowing door.name q) a b acts told fault) is_door
    (subst (λ k. HearsActs s (knowing door.name k) (knowing door.name q) a b acts told fault) is_pass h))

-- a connected one behind its acts
pub hears_talk : (v w : VoiceState) (k : AKey) (visit now : Visiting) (handed : Option Visiting) (a b : Storing) (acts : List Act) (told : ATold) (fault : Option TalkFault)
    → IsTalk (record { voice = v; key = k; visit = Some visit; handed = handed }) → w ≡ v → (length visit.pass.seen ≤ largest → length now.pass.seen ≤ largest)
    → HearsActs v (knowing visit.door.name visit.pass) (knowing now.door.name now.pass) a b acts told fault → IsTalk (record { voice = w; key = k; visit = Some now; handed = handed })
hears_talk v w k visit now handed a b acts told fault is same few h =
    talk_goes (record { voice = v; key = k; visit = Some visit; handed = handed }) (record { voice = w; key = k; visit = Some now; handed = handed }) _ is same h.does.goes few
