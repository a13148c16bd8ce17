-- A connect: what comes of it, whether its document was reached or not.
use Rattle.std.proofs.Common.{◌≡◌, ◌∙◌, ◌⊎◌, inl, inr, ℕ, Bool, true, false, List, [], ◌∷◌, ◌++◌, Option, Some, None, if◌then◌else◌, Result, Ok, Err, IfSome, append-nil, All, IfOk, refl, sym, ap, subst, arith}
use Rattle.std.proofs.lemmas.List.Elements.{All-head}
use Rattle.fluid_json.specs.declared.memory.NoMemory.{NoMemory as Refused}
use Rattle.fluid_types.specs.Names.{entry_name}
use Rattle.fluid_types.proofs.EntryNames.{entry_name-is_name}
use Rattle.fluid_store.specs.Storing.{Storing}
use Rattle.fluid_codec.specs.declared.replies.Reply.{Reply}
use Rattle.fluid_lane.specs.declared.steps.Step.{Step}
use Rattle.fluid_opening.specs.declared.opening.TheConstants.{MOST_DOCUMENTS}
use Rattle.fluid_opening.specs.declared.fault.DoorFault.{DoorFault}
use Rattle.fluid_opening.specs.declared.fault.DoorFault.TheVariants as door
use Rattle.fluid_service.specs.Visiting.{Visiting}
use Rattle.fluid_voice.specs.declared.refusals.ConnectRefusal.TheVariants.{TooManyDocuments}
use Rattle.fluid_voice.specs.declared.states.VoiceState.TheVariants.{Fresh}
use Rattle.fluid_voice.specs.declared.actions.Act.{Act}
use Rattle.fluid_voice.specs.declared.actions.Act.TheVariants as act
use Rattle.fluid_voice.specs.declared.ends.ActEnd.{ActEnd}
use Rattle.fluid_voice.specs.declared.ends.ActEnd.TheVariants.{Said, Joined, Told, Entered, FullNow, TooMany, Given}
use Rattle.fluid_voice.specs.States.{is_connected, is_used}
use Rattle.fluid_voice.specs.Refusals.{refused}
use Rattle.fluid_voice.specs.Suits.{SuitsConnect}
use Rattle.fluid_voice.specs.Fitting.{IsFitting}
use Rattle.fluid_voice.specs.Replies.{connect_replies, connect_state, entered_verdict}
use Rattle.fluid_ends.specs.declared.fault.TalkFault.{TalkFault}
use Rattle.fluid_ends.specs.declared.fault.TalkFault.TheVariants.{Door, Lane, Delta, Store, NoMemory}
use Rattle.fluid_ends.specs.Adding.{AddsBy}
use Rattle.fluid_talk.specs.Talking.{Knowing, Keyed, Talking, IsSamePass, Goes}
use Rattle.fluid_talk.specs.Doing.{Did, steps_in, may_steps, seen_behind, IsSeenLast, AreFound, AreAnswered}
use Rattle.fluid_talk.specs.Causes.{IsDoorFault, IsNoMemory, IsCauseOf, IsCauseAt}
use Rattle.fluid_talk.specs.Shelves.{KeepsKey, IsRefusedDoor, IsReachedBy}
use Rattle.fluid_talk.specs.Hearing.{AreReplies, KeyBehind, IsConnectEnd, IsFaultOf, Reaches}
use Rattle.fluid_connection.specs.declared.connecting.Connect.{Connect}
use Rattle.fluid_connection.specs.declared.telling.Answered.{Answered as ATold}
use Rattle.fluid_connection.specs.Knowing.{knowing, keyed}
use Rattle.fluid_connection.specs.Talked.{Talked, pass_of, talking}
use Rattle.fluid_connection.specs.Telling.{no_counts, SaysOne}
use Rattle.fluid_connection.specs.Entering.{did_of, DoesOne, FailsOne}
use Rattle.fluid_connection.specs.Hearing.{HearsOther}
use Rattle.fluid_connection.specs.Connecting.{act_of, FitsJoin, ReachesVisit, Greets, IsRefused, SettlesBy}
use Rattle.fluid_connection.proofs.Running.{answered_same, no_replies}
use Rattle.fluid_connection.proofs.Questions.{not_counted, full_alone}

-- ---- what a connect's end leaves

no_verdict : (write : Bool) (end : ActEnd) → SuitsConnect write end → entered_verdict end ≡ None
no_verdict write Said suits = refl
no_verdict write (Joined id number) suits = refl
no_verdict write (Told last) suits = refl
no_verdict true (Entered v) suits = absurd suits
no_verdict false (Entered v) suits = absurd suits
no_verdict write FullNow suits = refl
no_verdict write TooMany suits = refl
no_verdict write (Given reply) suits = refl

unused : (name : List ℕ) (write : Bool) (end : ActEnd) → is_used (connect_state name write Fresh end) ≡ false
unused name true Said = refl
unused name true (Joined id number) = refl
unused name true (Told last) = refl
unused name true (Entered v) = refl
unused name true FullNow = refl
unused name true TooMany = refl
unused name true (Given reply) = refl
unused name false Said = refl
unused name false (Joined id number) = refl
unused name false (Told last) = refl
unused name false (Entered v) = refl
unused name false FullNow = refl
unused name false TooMany = refl
unused name false (Given reply) = refl

true_false : {A : Type 0} → true ≡ false → A
true_false same = cc

-- who isn't connected has entered nothing
nothing_entered : (c : Connect) (write : Bool) (end : ActEnd) (added : List Step) → SuitsConnect write end → AddsBy (act_of c) end added
    → is_connected (connect_state c.name write Fresh end) ≡ false → added ≡ []
nothing_entered c true (Joined id number) added suits adds off = true_false off
nothing_entered c false (Joined id number) added suits adds off = absurd suits
nothing_entered c write Said added suits adds off = adds
nothing_entered c write (Told last) added suits adds off = adds
nothing_entered c write (Entered v) added suits adds off = adds
nothing_entered c write FullNow added suits adds off = adds
nothing_entered c write TooMany added suits adds off = adds
nothing_entered c write (Given reply) added suits adds off = adds

given_fresh : (name : List ℕ) (write : Bool) (reply : Reply) → Fresh ≡ connect_state name write Fresh (Given reply)
given_fresh name true reply = refl
given_fresh name false reply = refl

given_replies : (write : Bool) (reply : Reply) → connect_replies Fresh write (Given reply) ≡ reply ∷ []
given_replies true reply = refl
given_replies false reply = refl

given_suits : (write : Bool) → SuitsConnect write (Given (refused TooManyDocuments))
given_suits true = refl
given_suits false = refl

some_none : (fault : TalkFault) → ◌≡◌ {A = Option TalkFault} (Some fault) None → ⊥
some_none fault same = cc

-- ---- no door was reached

module _ (s t : Talking) (c : Connect) (told : ATold) (was : s.voice ≡ Fresh) (voice : t.voice ≡ Fresh) (pass : t.pass ≡ s.pass) (handed : t.handed ≡ s.handed) where
  nothing_done : (fault : TalkFault) → ((before now : Storing) → IsCauseOf t.pass before now (act_of c) fault) → KeyBehind (act_of c ∷ []) [] (Some fault) s.key t.key → IsFaultOf None (Some fault)
      → told.replies.items ≡ [] → told.counts ≡ no_counts → HearsOther s t (act_of c ∷ []) told (Some fault)
  nothing_done fault cause key of_service replies counts = record {
    done = [];
    rest = act_of c ∷ [];
    asked = refl;
    whole = λ none. absurd (some_none fault none);
    cause = cause;
    are_done = tt;
    full = tt;
    voice = voice ∙ sym was;
    unused = ap is_used voice;
    said = subst (λ rs. AreReplies (Some fault) [] rs) (sym replies) (no_replies fault);
    counts = counts;
    apart = λ store. record {
      reached = None;
      does = record { apart = ap is_connected voice; pass = pass; handed = handed; nothing = refl; key = key };
      ends = tt;
      cause = of_service;
    };
  }

  pub connect_lost : KeepsKey s.key t.key → told.replies.items ≡ [] → told.counts ≡ no_counts → HearsOther s t (act_of c ∷ []) told (Some NoMemory)
  connect_lost key replies counts = nothing_done NoMemory (λ before now. tt) key tt replies counts

  pub connect_failed : (fault : DoorFault) → IsDoorFault fault → IsRefusedDoor c.name fault s.key t.key → told.replies.items ≡ [] → told.counts ≡ no_counts
      → HearsOther s t (act_of c ∷ []) told (Some (Door fault))
  connect_failed fault is key replies counts = nothing_done (Door fault) (λ before now. (tt, is)) key tt replies counts

  -- too many documents are open, and that was said
  beyond_said : IsRefusedDoor c.name (door.TooManyDocuments MOST_DOCUMENTS) s.key t.key → told.replies.items ≡ refused TooManyDocuments ∷ [] → told.counts ≡ no_counts
      → HearsOther s t (act_of c ∷ []) told None
  beyond_said key replies counts = record {
    done = did_of (act_of c) (Given (refused TooManyDocuments)) [] [] ∷ [];
    rest = [];
    asked = refl;
    whole = λ none. refl;
    cause = λ before now. tt;
    are_done = (record { suits = given_suits c.write; adds = refl }, tt);
    full = full_alone (Given (refused TooManyDocuments));
    voice = voice ∙ given_fresh c.name c.write (refused TooManyDocuments) ∙ ap (λ v. connect_state c.name c.write v (Given (refused TooManyDocuments))) (sym was);
    unused = ap is_used voice;
    said = replies ∙ sym (ap (λ v. connect_replies v c.write (Given (refused TooManyDocuments)) ++ []) was ∙ append-nil (connect_replies Fresh c.write (Given (refused TooManyDocuments))) ∙ given_replies c.write (refused TooManyDocuments));
    counts = counts ∙ not_counted (act_of c) (Given (refused TooManyDocuments)) refl;
    apart = λ store. record {
      reached = None;
      does = record { apart = ap is_connected voice; pass = pass; handed = handed; nothing = refl; key = key };
      ends = (tt, tt);
      cause = tt;
    };
  }

  pub connect_refused : (fault : Option TalkFault) → IsRefusedDoor c.name (door.TooManyDocuments MOST_DOCUMENTS) s.key t.key → KeepsKey s.key t.key → IsRefused told fault
      → HearsOther s t (act_of c ∷ []) told fault
  connect_refused fault key keeps is = by is.said
    where
      by : ((fault ≡ None) × (told.replies.items ≡ refused TooManyDocuments ∷ [])) ⊎ ((fault ≡ Some NoMemory) × (told.replies.items ≡ [])) → HearsOther s t (act_of c ∷ []) told fault
      by (inl (none, all)) = subst (λ f. HearsOther s t (act_of c ∷ []) told f) (sym none) (beyond_said key all is.counts)
      by (inr (lost, nothing)) = subst (λ f. HearsOther s t (act_of c ∷ []) told f) (sym lost) (connect_lost keeps nothing is.counts)

-- ---- nothing is asked for, or one reply

module _ (s t : Talking) (acts : List Act) (told : ATold) (off : is_connected s.voice ≡ false) (fresh : is_used s.voice ≡ false)
    (voice : t.voice ≡ s.voice) (pass : t.pass ≡ s.pass) (handed : t.handed ≡ s.handed) (key : t.key ≡ s.key) where
  keeps : KeepsKey s.key t.key
  keeps = subst (λ k. KeepsKey s.key k) (sym key) (record { same = record { limits = refl; told = refl; number = refl }; seen = ([], sym (append-nil s.key.seen)); mine = refl })

  pub apart_none : acts ≡ [] → told.replies.items ≡ [] → told.counts ≡ no_counts → HearsOther s t acts told None
  apart_none none replies counts = subst (λ l. HearsOther s t l told None) (sym none) (record {
    done = [];
    rest = [];
    asked = refl;
    whole = λ _. refl;
    cause = λ before now. tt;
    are_done = tt;
    full = tt;
    voice = voice;
    unused = ap is_used voice ∙ fresh;
    said = replies;
    counts = counts;
    apart = λ store. record {
      reached = None;
      does = record { apart = ap is_connected voice ∙ off; pass = pass; handed = handed; nothing = refl; key = keeps };
      ends = tt;
      cause = tt;
    };
  })

  pub apart_say : (reply : Reply) (said : Result (List Reply) Refused) (fault : Option TalkFault) → acts ≡ act.Say reply ∷ [] → IfOk said (λ replies. replies ≡ reply ∷ []) → SaysOne said told fault
      → HearsOther s t acts told fault
  apart_say reply (Ok replies) fault one is says = subst (λ l. HearsOther s t l told fault) (sym one) (subst (λ f. HearsOther s t (act.Say reply ∷ []) told f) (sym says.1.1) (record {
    done = did_of (act.Say reply) Said [] [] ∷ [];
    rest = [];
    asked = refl;
    whole = λ _. refl;
    cause = λ before now. tt;
    are_done = (record { suits = refl; adds = refl }, tt);
    full = tt;
    voice = voice;
    unused = ap is_used voice ∙ fresh;
    said = says.0 ∙ is;
    counts = says.1.0 ∙ not_counted (act.Say reply) Said refl;
    apart = λ store. record {
      reached = None;
      does = record { apart = ap is_connected voice ∙ off; pass = pass; handed = handed; nothing = refl; key = keeps };
      ends = (tt, tt);
      cause = tt;
    };
  }))
  apart_say reply (Err refusal) fault one is says = subst (λ l. HearsOther s t l told fault) (sym one) (subst (λ f. HearsOther s t (act.Say reply ∷ []) told f) (sym says.1.1) (record {
    done = [];
    rest = act.Say reply ∷ [];
    asked = refl;
    whole = λ none. absurd (some_none NoMemory none);
    cause = λ before now. tt;
    are_done = tt;
    full = tt;
    voice = voice;
    unused = ap is_used voice ∙ fresh;
    said = ([], sym (ap (λ rs. rs ++ []) says.0));
    counts = says.1.0;
    apart = λ store. record {
      reached = None;
      does = record { apart = ap is_connected voice ∙ off; pass = pass; handed = handed; nothing = refl; key = keeps };
      ends = tt;
      cause = tt;
    };
  }))

-- a connect that is heard fits a log under any id
pub connect_fits : (acts : List Act) (c : Connect) → acts ≡ act_of c ∷ [] → All IsFitting acts → FitsJoin c
connect_fits acts c one fit = λ n few.
    All-head IsFitting (act_of c) [] (subst (λ l. All IsFitting l) one fit) (entry_name n) (entry_name-is_name n (omega (arith, few)))

-- ---- a door was reached

-- the pass that goes on is one of the same document
reached_on : (name : List ℕ) (handed p q : Knowing) (k m : Keyed) → IsSamePass p q → IsReachedBy name handed p k m → IsReachedBy name handed q k m
reached_on name handed p q k m same (inl splits) = inl (record { named = splits.named; limits = same.limits ∙ splits.limits; told = same.told ∙ splits.told; key = splits.key })
reached_on name handed p q k m same (inr opens) =
    inr (record { opens = opens.opens; served = record { limits = same.limits ∙ opens.served.limits; told = λ told. same.told ∙ opens.served.told told } })

module _ (old new : Talked) (c : Connect) (visit now : Visiting) (told : ATold) (was : old.voice ≡ Fresh) (reached : ReachesVisit c.name old.handed old.key new.key visit)
    (visit_is : new.visit ≡ Some now) (handed : new.handed ≡ (if is_connected new.voice then None else old.handed)) where
  abbrev P : Knowing
  P = knowing visit.door.name visit.pass

  abbrev Q : Knowing
  Q = knowing now.door.name now.pass

  passes : (talking new).pass ≡ Q
  passes = ap pass_of visit_is

  still_handed : is_connected new.voice ≡ false → (talking new).handed ≡ (talking old).handed
  still_handed off = ap pass_of (handed ∙ ap (λ b. if b then None else old.handed) off)

  abbrev Steps : List Did → Option TalkFault → List Step
  Steps done fault = steps_in done ++ may_steps fault

  reaches : (done : List Did) (fault : Option TalkFault) → Goes P Q (Steps done fault) → AreFound P.number fault P.seen Q.seen done → ((store : Storing) → AreAnswered P store done)
      → now.door ≡ visit.door → (is_connected new.voice ≡ false → steps_in done ≡ []) → (store : Storing) → Reaches c.name (talking old) (talking new) store (act_of c ∷ []) done fault
  reaches done fault goes found answered same nothing store = record {
    asked = refl;
    named = ap (λ k. k.name) passes ∙ ap (λ d. Some d.name) same ∙ ap Some reached.named;
    first = visit.pass.seen;
    begins = reached.begins;
    found = subst (λ k. AreFound k.number fault visit.pass.seen k.seen done) (sym passes) (subst (λ n. AreFound n fault P.seen Q.seen done) (sym goes.same.number) found);
    answered = subst (λ k. AreAnswered k store done) (sym passes) (answered_same Q P store done (sym goes.same.limits) (sym goes.same.told) (answered store));
    mine = ap (λ k. k.mine) passes ∙ goes.mine ∙ ap (λ l. l ++ Steps done fault) reached.new;
    nothing = nothing;
    handed = still_handed;
    through = subst (λ k. IsReachedBy c.name (pass_of old.handed) k (keyed old.key) (keyed new.key)) (sym passes) (reached_on c.name (pass_of old.handed) P Q (keyed old.key) (keyed new.key) goes.same reached.through);
  }

  -- the document answered
  greeted : (end : ActEnd) (fault : Option TalkFault) → DoesOne P Q (act_of c) end → IsConnectEnd (Some c.name) (act_of c) end → now.door ≡ visit.door
      → new.voice ≡ connect_state c.name c.write Fresh end → may_steps fault ≡ [] → IfSome fault IsNoMemory → AreReplies fault (connect_replies Fresh c.write end) told.replies.items → told.counts ≡ no_counts
      → HearsOther (talking old) (talking new) (act_of c ∷ []) told fault
  greeted end fault one is_end same voice none free said counts =
      let d = did_of (act_of c) end one.found one.added in
      let all : Steps (d ∷ []) fault ≡ one.added = ap (λ l. (one.added ++ []) ++ l) none ∙ append-nil (one.added ++ []) ∙ append-nil one.added in record {
        done = d ∷ [];
        rest = [];
        asked = refl;
        whole = λ none. refl;
        cause = λ before now. cause_of fault free (talking new).pass before now;
        are_done = (one.is_done, tt);
        full = full_alone end;
        voice = voice ∙ ap (λ v. connect_state c.name c.write v end) (sym was);
        unused = ap is_used voice ∙ unused c.name c.write end;
        said = subst (λ rs. AreReplies fault rs told.replies.items) (sym (ap (λ v. connect_replies v c.write end ++ []) was ∙ append-nil (connect_replies Fresh c.write end))) said;
        counts = counts ∙ not_counted (act_of c) end (no_verdict c.write end one.is_done.suits);
        apart = λ store. record {
          reached = Some c.name;
          does = reaches (d ∷ []) fault (subst (λ l. Goes P Q l) (sym all) one.goes) (one.begins, last fault one) (λ st. (one.answered st, tt)) same
              (λ off. append-nil one.added ∙ nothing_entered c c.write end one.added one.is_done.suits one.is_done.adds (ap is_connected (sym voice) ∙ off)) store;
          ends = (is_end, tt);
          cause = fault_of fault free;
        };
      }
    where
      cause_of : (f : Option TalkFault) → IfSome f IsNoMemory → (q : Knowing) (a b : Storing) → IfSome f (IsCauseAt q a b [])
      cause_of None free q a b = tt
      cause_of (Some f) free q a b = free

      fault_of : (f : Option TalkFault) → IfSome f IsNoMemory → IsFaultOf (Some c.name) f
      fault_of None free = tt
      fault_of (Some NoMemory) free = tt
      fault_of (Some (Door f)) free = absurd free
      fault_of (Some (Lane f)) free = absurd free
      fault_of (Some (Delta f)) free = absurd free
      fault_of (Some (Store f)) free = absurd free

      last : (f : Option TalkFault) (one : DoesOne P Q (act_of c) end) → IsSeenLast f (seen_behind P.number (did_of (act_of c) end one.found one.added)) Q.seen
      last None one = one.seen
      last (Some f) one = ([], one.seen ∙ sym (append-nil (seen_behind P.number (did_of (act_of c) end one.found one.added))))

  -- it failed
  failed : (fault : TalkFault) → FailsOne P Q (act_of c) fault → IsFaultOf (Some c.name) (Some fault) → now.door ≡ visit.door → new.voice ≡ Fresh → told.replies.items ≡ [] → told.counts ≡ no_counts
      → HearsOther (talking old) (talking new) (act_of c ∷ []) told (Some fault)
  failed fault h of_door same voice replies counts = record {
    done = [];
    rest = act_of c ∷ [];
    asked = refl;
    whole = λ none. absurd (some_none fault none);
    cause = λ before now. subst (λ k. IsCauseOf k before now (act_of c) fault) (sym passes) (h.cause before now);
    are_done = tt;
    full = tt;
    voice = voice ∙ sym was;
    unused = ap is_used voice;
    said = subst (λ rs. AreReplies (Some fault) [] rs) (sym replies) (no_replies fault);
    counts = counts;
    apart = λ store. record {
      reached = Some c.name;
      does = reaches [] (Some fault) h.goes h.goes.seen (λ st. tt) same (λ off. refl) store;
      ends = tt;
      cause = of_door;
    };
  }

  pub connect_settled : (answer : Result ActEnd TalkFault) (fault : Option TalkFault) → Greets c visit now answer → SettlesBy new c.name c.write answer told fault
      → HearsOther (talking old) (talking new) (act_of c ∷ []) told fault
  connect_settled (Ok end) fault greets by = said by.1.said
    where
      is_end : IsConnectEnd (Some c.name) (act_of c) end
      is_end = subst (λ n. IsConnectEnd (Some n) (act_of c) end) reached.named greets.ends

      said : ((fault ≡ None) × (told.replies.items ≡ connect_replies Fresh c.write end)) ⊎ ((fault ≡ Some NoMemory) × (told.replies.items ≡ []))
          → HearsOther (talking old) (talking new) (act_of c ∷ []) told fault
      said (inl (none, all)) = subst (λ f. HearsOther (talking old) (talking new) (act_of c ∷ []) told f) (sym none)
          (greeted end None greets.does is_end greets.door by.0 refl tt all by.1.counts)
      said (inr (lost, nothing)) = subst (λ f. HearsOther (talking old) (talking new) (act_of c ∷ []) told f) (sym lost)
          (greeted end (Some NoMemory) greets.does is_end greets.door by.0 refl tt (connect_replies Fresh c.write end, sym (ap (λ rs. rs ++ connect_replies Fresh c.write end) nothing)) by.1.counts)
  connect_settled (Err cause) fault greets by = subst (λ f. HearsOther (talking old) (talking new) (act_of c ∷ []) told f) (sym by.1.1.1)
      (failed cause greets.does (subst (λ n. IsFaultOf (Some n) (Some cause)) reached.named greets.faults) greets.door by.0 by.1.1.0 by.1.0)
