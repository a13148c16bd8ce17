-- One act alone, which enters nothing.
use Rattle.std.proofs.Common.{◌≡◌, ◌∙◌, ◌⊎◌, inl, inr, ◌+◌, false, is_some, List, [], ◌∷◌, ◌++◌, map, Option, Some, None, option_map, Result, Ok, Err, IfOk, append-nil, refl, sym, ap, subst, arith}
use Rattle.std.specs.Bool.{⊤}
use Rattle.std.specs.List.{list_any}
use Rattle.std.proofs.lemmas.List.Elements.{All-nil}
use Rattle.fluid_io.specs.declared.faults.FaultNote.{FaultNote}
use Rattle.fluid_turn.specs.Entries.{by_seat}
use Rattle.fluid_store.specs.Held.{Held}
use Rattle.fluid_store.specs.Storing.{Storing}
use Rattle.fluid_store.specs.declared.fault.StoreFault.TheVariants as store
use Rattle.fluid_lane.specs.declared.steps.Step.{Step}
use Rattle.fluid_json.specs.declared.memory.NoMemory.{NoMemory as Refused}
use Rattle.fluid_codec.specs.declared.replies.Reply.{Reply}
use Rattle.fluid_voice.specs.declared.states.VoiceState.{VoiceState}
use Rattle.fluid_voice.specs.declared.actions.Act.{Act}
use Rattle.fluid_voice.specs.declared.actions.Act.TheVariants as act
use Rattle.fluid_voice.specs.declared.ends.ActEnd.{ActEnd}
use Rattle.fluid_voice.specs.declared.ends.ActEnd.TheVariants.{Said, Joined, Told, Entered, FullNow, TooMany, Given}
use Rattle.fluid_voice.specs.Laws.{FullBehind}
use Rattle.fluid_voice.specs.Replies.{replies_to, state_after, is_sequenced, is_dropped, is_nacked, entered_verdict, one_where}
use Rattle.fluid_talk.specs.Counting.{is_absorbed}
use Rattle.fluid_voice.specs.Ends.{held_behind, outcome}
use Rattle.fluid_voice.specs.Ends.Outcome.{ends}
use Rattle.fluid_voice.specs.Suits.{Suits}
use Rattle.fluid_ends.specs.declared.fault.TalkFault.{TalkFault}
use Rattle.fluid_ends.specs.declared.fault.TalkFault.TheVariants.{Door, Lane, Delta, Store, NoMemory}
use Rattle.fluid_ends.specs.Adding.{AddsBy}
use Rattle.fluid_ends.specs.Asking.{is_asked_of_store, found_in}
use Rattle.fluid_ends.specs.Faults.{talk_steps}
use Rattle.fluid_acts.specs.Parts.{DoesOnStore, IsStoreFault}
use Rattle.fluid_talk.specs.Talking.{Knowing, Goes, ledger_of}
use Rattle.fluid_talk.specs.Doing.{IsAnswered}
use Rattle.fluid_talk.specs.Hearing.{HoldsWith, HoldsBehind, LeavesStore}
use Rattle.fluid_talk.specs.Causes.{IsCauseOf}
use Rattle.fluid_connection.specs.declared.telling.Answered.{Answered as ATold}
use Rattle.fluid_connection.specs.Entering.{did_of, DoesAs}
use Rattle.fluid_connection.specs.Telling.{no_counts, with_ends, SaysOne}
use Rattle.fluid_connection.specs.Hearing.{IsQuestion, AsksOne, AsksFail, AsksAs, DoesActs, HearsActs}
use Rattle.fluid_connection.proofs.Running.{goes_nowhere, no_replies}
use Rattle.fluid_connection.proofs.Texts.{counts_one}

-- ---- what a question leaves

pub stays_question : (s : VoiceState) (a : Act) (end : ActEnd) → IsQuestion a → state_after s a end ≡ s
stays_question s (act.Say reply) end is = refl
stays_question s (act.Deltas from to) end is = refl
stays_question s (act.Summary asked) end is = refl
stays_question s (act.GetObject id) end is = refl
stays_question s (act.PutObject bytes) end is = refl
stays_question s (act.Connect name write scopes detail moment) end is = absurd is
stays_question s (act.Enter raw) end is = absurd is

adds_nothing : (a : Act) (end : ActEnd) (added : List Step) → IsQuestion a → AddsBy a end added → added ≡ []
adds_nothing (act.Say reply) end added is adds = adds
adds_nothing (act.Deltas from to) end added is adds = adds
adds_nothing (act.Summary asked) end added is adds = adds
adds_nothing (act.GetObject id) end added is adds = adds
adds_nothing (act.PutObject bytes) end added is adds = adds
adds_nothing (act.Connect name write scopes detail moment) end added is adds = absurd is
adds_nothing (act.Enter raw) end added is adds = absurd is

-- no verdict comes of it
no_verdict : (a : Act) (end : ActEnd) → IsQuestion a → Suits a end → entered_verdict end ≡ None
no_verdict a Said is suits = refl
no_verdict a (Joined id number) is suits = refl
no_verdict a (Told last) is suits = refl
no_verdict a FullNow is suits = refl
no_verdict a TooMany is suits = refl
no_verdict a (Given reply) is suits = refl
no_verdict (act.Say reply) (Entered v) is suits = cc
no_verdict (act.Deltas from to) (Entered v) is suits = absurd suits
no_verdict (act.Summary asked) (Entered v) is suits = absurd suits
no_verdict (act.GetObject id) (Entered v) is suits = absurd suits
no_verdict (act.PutObject bytes) (Entered v) is suits = absurd suits
no_verdict (act.Connect name write scopes detail moment) (Entered v) is suits = absurd is
no_verdict (act.Enter raw) (Entered v) is suits = absurd is

pub not_counted : (a : Act) (end : ActEnd) → entered_verdict end ≡ None → no_counts ≡ with_ends no_counts ((a, end) ∷ [])
not_counted a end none = sym (ap (λ o. record {
  sequenced = 0 + one_where is_sequenced o;
  dropped = 0 + one_where is_dropped o;
  nacked = 0 + one_where is_nacked o;
  absorbed = 0 + one_where is_absorbed o;
}) none) ∙ counts_one no_counts a end

pub full_alone : (end : ActEnd) → FullBehind (end ∷ [])
full_alone FullNow = All-nil (λ e. e ≡ FullNow)
full_alone Said = tt
full_alone (Joined id number) = tt
full_alone (Told last) = tt
full_alone (Entered v) = tt
full_alone TooMany = tt
full_alone (Given reply) = tt

-- ---- stores that aren't asked

pub same_option : {A : Type 0} (o : Option A) → o ≡ option_map (λ x. x) o
same_option None = refl
same_option (Some x) = refl

held_same : (a : Act) (o : Option Held) → is_asked_of_store a ≡ false → o ≡ option_map (λ held. held_behind held a) o
held_same (act.Say reply) o is = same_option o
held_same (act.Deltas from to) o is = same_option o
held_same (act.Summary asked) o is = same_option o
held_same (act.GetObject id) o is = same_option o
held_same (act.PutObject bytes) o is = cc
held_same (act.Connect name write scopes detail moment) o is = same_option o
held_same (act.Enter raw) o is = same_option o

pub store_same : (s : Storing) (a : Act) → is_asked_of_store a ≡ false → LeavesStore s s (a ∷ []) (a ∷ []) [] None
store_same s a is = record { later = omega arith; told = refl; holds = held_same a s.content is; untouched = λ none. refl }

-- one that is asked nothing keeps all, whatever fails
pub store_kept : (s : Storing) (a : Act) (fault : TalkFault) → LeavesStore s s (a ∷ []) [] (a ∷ []) (Some fault)
store_kept s a fault = record { later = omega arith; told = refl; holds = holds fault; untouched = λ none. refl }
  where
    holds : (f : TalkFault) → HoldsBehind (Some f) s s [] (a ∷ [])
    holds (Door f) = same_option s.content
    holds (Lane f) = same_option s.content
    holds (Delta f) = same_option s.content
    holds (Store (store.StoreFailed note)) = inl (same_option s.content)
    holds (Store (store.Clash id kept new)) = same_option s.content
    holds (Store (store.Missing id)) = same_option s.content
    holds (Store (store.BadObject id place)) = same_option s.content
    holds (Store (store.Tree f)) = same_option s.content
    holds (Store (store.NoPath path)) = same_option s.content
    holds (Store store.NoMemory) = same_option s.content
    holds NoMemory = same_option s.content

-- ---- of a document

module _ (p q : Knowing) (s : Storing) (a : Act) (asks : IsQuestion a) (none : is_asked_of_store a ≡ false) where
  pub asked_door : (answer : Result ActEnd TalkFault) → DoesAs p q a answer → AsksAs p q s s a answer
  asked_door (Ok end) h =
      let nothing = adds_nothing a end h.added asks h.is_done.adds in
      record {
        found = h.found;
        begins = h.begins;
        seen = subst (λ added. q.seen ≡ h.found ++ map (by_seat p.number) added) nothing h.seen ∙ append-nil h.found;
        goes = subst (λ added. Goes p q added) nothing h.goes;
        is_done = record { suits = h.is_done.suits; adds = subst (λ added. AddsBy a end added) nothing h.is_done.adds };
        answered = h.answered s;
        store = store_same s a none;
      }
  asked_door (Err fault) h = record { goes = h.goes; cause = h.cause s s; store = store_kept s a fault }

-- a reply of its own
pub asked_nothing : (p : Knowing) (s : Storing) (reply : Reply) → AsksAs p p s s (act.Say reply) (Ok Said)
asked_nothing p s reply = record {
  found = p.seen;
  begins = ([], sym (append-nil p.seen));
  seen = refl;
  goes = goes_nowhere p;
  is_done = record { suits = refl; adds = refl };
  answered = λ held told. refl;
  store = store_same s (act.Say reply) refl;
}

-- ---- of a store

abbrev pub IsOfStore : Act → Type 0
IsOfStore (act.GetObject id) = ⊤
IsOfStore (act.PutObject bytes) = ⊤
IsOfStore a = ⊥

some_same : {A B : Type 0} (f : A → B) (o : Option A) → is_some (option_map f o) ≡ is_some o
some_same f None = refl
some_same f (Some x) = refl

told_by : {A : Type 0} (o n : Option A) (f : A → A) → n ≡ option_map f o → is_some n ≡ is_some o
told_by o n f is = ap is_some is ∙ some_same f o

adds_by_store : (a : Act) (end : ActEnd) → IsOfStore a → AddsBy a end []
adds_by_store (act.GetObject id) end is = refl
adds_by_store (act.PutObject bytes) end is = refl
adds_by_store (act.Say reply) end is = absurd is
adds_by_store (act.Connect name write scopes detail moment) end is = absurd is
adds_by_store (act.Enter raw) end is = absurd is
adds_by_store (act.Deltas from to) end is = absurd is
adds_by_store (act.Summary asked) end is = absurd is

untouched_by : (a : Act) (before now : Storing) → IsOfStore a → (is_asked_of_store a ≡ false → now ≡ before) → list_any is_asked_of_store (a ∷ []) ≡ false → now ≡ before
untouched_by (act.GetObject id) before now is keeps none = cc
untouched_by (act.PutObject bytes) before now is keeps none = cc
untouched_by (act.Say reply) before now is keeps none = absurd is
untouched_by (act.Connect name write scopes detail moment) before now is keeps none = absurd is
untouched_by (act.Enter raw) before now is keeps none = absurd is
untouched_by (act.Deltas from to) before now is keeps none = absurd is
untouched_by (act.Summary asked) before now is keeps none = absurd is

module _ (p : Knowing) (before now : Storing) (a : Act) (of_store : IsOfStore a) where
  -- what a store says of its content, to an act that is told by it
  answered_by : (end : ActEnd) → ((held : Held) → before.content ≡ Some held → outcome (found_in p.limits (ledger_of p.seen) held) a ≡ ends end)
      → IsAnswered p before (did_of a end p.seen [])
  answered_by end says = by a of_store says
    where
      by : (b : Act) → IsOfStore b → ((held : Held) → before.content ≡ Some held → outcome (found_in p.limits (ledger_of p.seen) held) b ≡ ends end) → IsAnswered p before (did_of b end p.seen [])
      by (act.GetObject id) is h = h
      by (act.PutObject bytes) is h = h
      by (act.Say reply) is h = absurd is
      by (act.Connect name write scopes detail moment) is h = absurd is
      by (act.Enter raw) is h = absurd is
      by (act.Deltas from to) is h = absurd is
      by (act.Summary asked) is h = absurd is

  kept : (fault : TalkFault) → now.content ≡ before.content → HoldsWith [] before now
  kept fault same = same ∙ same_option before.content

  fails : (fault : TalkFault) → DoesOnStore a before now (Err fault) → IsCauseOf p before now a fault → is_some now.content ≡ is_some before.content
      → HoldsBehind (Some fault) before now [] (a ∷ []) → AsksFail p p before now a fault
  fails fault h cause told holds = record {
    goes = subst (λ added. Goes p p added) (sym none) (goes_nowhere p);
    cause = cause;
    store = record { later = h.store.later; told = told; holds = holds; untouched = untouched_by a before now of_store h.store.untouched };
  }
    where
      none : talk_steps fault ≡ []
      none = by fault h.cause
        where
          by : (f : TalkFault) → IsStoreFault a before now f → talk_steps f ≡ []
          by (Door f) is = absurd is
          by (Lane f) is = absurd is
          by (Delta f) is = absurd is
          by (Store f) is = refl
          by NoMemory is = refl

  -- what a failing store leaves
  store_failed : (note : FaultNote) → (now.content ≡ before.content) ⊎ (now.content ≡ option_map (λ held. held_behind held a) before.content)
      → is_some now.content ≡ is_some before.content
  store_failed note (inl same) = ap is_some same
  store_failed note (inr put) = told_by before.content now.content (λ held. held_behind held a) put

  either : (now.content ≡ before.content) ⊎ (now.content ≡ option_map (λ held. held_behind held a) before.content) → HoldsWith [] before now ⊎ HoldsWith (a ∷ []) before now
  either (inl same) = inl (same ∙ same_option before.content)
  either (inr put) = inr put

  pub asked_store : (answer : Result ActEnd TalkFault) → DoesOnStore a before now answer → AsksAs p p before now a answer
  asked_store (Ok end) h = record {
    found = p.seen;
    begins = ([], sym (append-nil p.seen));
    seen = refl;
    goes = goes_nowhere p;
    is_done = record { suits = h.suits; adds = adds_by_store a end of_store };
    answered = answered_by end (λ held told. h.end p.limits (ledger_of p.seen) held told);
    store = record {
      later = h.store.later;
      told = told_by before.content now.content (λ held. held_behind held a) h.store.holds;
      holds = h.store.holds;
      untouched = untouched_by a before now of_store h.store.untouched;
    };
  }
  asked_store (Err (Door fault)) h = absurd h.cause
  asked_store (Err (Lane fault)) h = absurd h.cause
  asked_store (Err (Delta fault)) h = absurd h.cause
  asked_store (Err NoMemory) h = fails NoMemory h tt (ap is_some h.store.holds) (kept NoMemory h.store.holds)
  asked_store (Err (Store (store.StoreFailed note))) h = fails (Store (store.StoreFailed note)) h h.cause (store_failed note h.store.holds) (either h.store.holds)
  asked_store (Err (Store (store.Clash id held new))) h = fails (Store (store.Clash id held new)) h h.cause (ap is_some h.store.holds) (kept (Store (store.Clash id held new)) h.store.holds)
  asked_store (Err (Store (store.Missing id))) h = absurd h.cause.1
  asked_store (Err (Store (store.BadObject id place))) h = absurd h.cause.1
  asked_store (Err (Store (store.Tree fault))) h = absurd h.cause.1
  asked_store (Err (Store (store.NoPath path))) h = absurd h.cause.1
  asked_store (Err (Store store.NoMemory)) h = absurd h.cause.1

-- ---- and what is said to it

module _ (s : VoiceState) (p q : Knowing) (before now : Storing) (a : Act) (asks : IsQuestion a) where
  pub says_end : (end : ActEnd) (said : Result (List Reply) Refused) (told : ATold) (fault : Option TalkFault) → AsksOne p q before now a end
      → IfOk said (λ replies. replies ≡ replies_to s a end) → SaysOne said told fault → HearsActs s p q before now (a ∷ []) told fault
  says_end end (Ok replies) told fault h is says = record {
    done = did_of a end h.found [] ∷ [];
    does = subst (λ f. DoesActs s p q before now (a ∷ []) (did_of a end h.found [] ∷ []) told.replies.items f) (sym says.1.1) (record {
      rest = [];
      asked = refl;
      whole = λ none. refl;
      cause = tt;
      are_done = (h.is_done, tt);
      full = full_alone end;
      goes = h.goes;
      found = (h.begins, h.seen ∙ sym (append-nil h.found));
      answered = (h.answered, tt);
      said = says.0 ∙ is ∙ sym (append-nil (replies_to s a end));
      store = h.store;
    });
    counts = says.1.0 ∙ not_counted a end (no_verdict a end asks h.is_done.suits);
  }
  says_end end (Err refused) told fault h is says = record {
    done = did_of a end h.found [] ∷ [];
    does = subst (λ f. DoesActs s p q before now (a ∷ []) (did_of a end h.found [] ∷ []) told.replies.items f) (sym says.1.1) (record {
      rest = [];
      asked = refl;
      whole = λ none. refl;
      cause = tt;
      are_done = (h.is_done, tt);
      full = full_alone end;
      goes = h.goes;
      found = (h.begins, ([], h.seen ∙ sym (append-nil h.found) ∙ sym (append-nil _)));
      answered = (h.answered, tt);
      said = (replies_to s a end ++ [], sym (ap (λ rs. rs ++ (replies_to s a end ++ [])) says.0));
      store = record { later = h.store.later; told = h.store.told; holds = h.store.holds; untouched = h.store.untouched };
    });
    counts = says.1.0 ∙ not_counted a end (no_verdict a end asks h.is_done.suits);
  }

  pub says_fault : (fault : TalkFault) (told : ATold) → AsksFail p q before now a fault → told.replies.items ≡ [] → told.counts ≡ no_counts → HearsActs s p q before now (a ∷ []) told (Some fault)
  says_fault fault told h replies counts = record {
    done = [];
    does = subst (λ rs. DoesActs s p q before now (a ∷ []) [] rs (Some fault)) (sym replies) (record {
      rest = a ∷ [];
      asked = refl;
      whole = λ none. absurd (some_none none);
      cause = h.cause;
      are_done = tt;
      full = tt;
      goes = h.goes;
      found = h.goes.seen;
      answered = tt;
      said = no_replies fault;
      store = h.store;
    });
    counts = counts;
  }
    where
      some_none : ◌≡◌ {A = Option TalkFault} (Some fault) None → ⊥
      some_none same = cc
