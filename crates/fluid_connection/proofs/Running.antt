-- One entry before others.
use Rattle.std.proofs.Common.{◌≡◌, ◌∙◌, Bool, true, false, List, [], ◌∷◌, ◌++◌, Option, Some, None, append-nil, append_assoc, refl, sym, ap, subst}
use Rattle.std.proofs.lemmas.List.Elements.{All-nil, All-cons}
use Rattle.fluid_turn.specs.Entries.{IsPrefix}
use Rattle.fluid_rules.specs.declared.limits.Limits.{Limits}
use Rattle.fluid_types.specs.declared.entries.Raw.{Raw}
use Rattle.fluid_store.specs.Storing.{Storing}
use Rattle.fluid_lane.specs.declared.steps.Step.{Step}
use Rattle.fluid_codec.specs.declared.replies.Reply.{Reply}
use Rattle.fluid_voice.specs.declared.states.VoiceState.{VoiceState}
use Rattle.fluid_voice.specs.declared.actions.Act.{Act}
use Rattle.fluid_voice.specs.declared.actions.Act.TheVariants as act
use Rattle.fluid_voice.specs.declared.ends.ActEnd.{ActEnd}
use Rattle.fluid_voice.specs.declared.ends.ActEnd.TheVariants.{Said, Joined, Told, Entered, FullNow, TooMany, Given}
use Rattle.fluid_voice.specs.States.{document_name}
use Rattle.fluid_voice.specs.Replies.{entry_replies, replies_behind, state_after}
use Rattle.fluid_voice.specs.Ends.{outcome}
use Rattle.fluid_voice.specs.Ends.Outcome.{ends}
use Rattle.fluid_ends.specs.declared.fault.TalkFault.{TalkFault}
use Rattle.fluid_ends.specs.declared.fault.TalkFault.TheVariants.{Door, Lane, Delta, Store, NoMemory}
use Rattle.fluid_ends.specs.Asking.{found_in}
use Rattle.fluid_talk.specs.Talking.{Knowing, Goes, ledger_of}
use Rattle.fluid_talk.specs.Doing.{Did, ends_in, ended, steps_in, may_steps, seen_behind, IsTold, AreFound, AreAnswered}
use Rattle.fluid_talk.specs.Causes.{IsCauseAt}
use Rattle.fluid_talk.specs.Hearing.{AreReplies}
use Rattle.fluid_connection.specs.Entering.{did_of, DoesOne, FailsOne}
use Rattle.fluid_connection.specs.Running.{FullFrom, EntersAll}
use Rattle.fluid_connection.specs.Telling.{full_behind}

-- ---- lists that go on

pub prefix_then : {X : Type 0} (a b c : List X) → IsPrefix a b → IsPrefix b c → IsPrefix a c
prefix_then a b c one two = (one.0 ++ two.0, two.1 ∙ ap (λ xs. xs ++ two.0) one.1 ∙ append_assoc a one.0 two.0)

prefix_behind : {X : Type 0} (xs a b : List X) → IsPrefix a b → IsPrefix (xs ++ a) (xs ++ b)
prefix_behind xs a b h = (h.0, ap (λ ys. xs ++ ys) h.1 ∙ sym (append_assoc xs a h.0))

goes_on : (p m q : Knowing) (one more : List Step) → Goes p m one → Goes m q more → Goes p q (one ++ more)
goes_on p m q one more a b = record {
  same = record { name = b.same.name ∙ a.same.name; limits = b.same.limits ∙ a.same.limits; told = b.same.told ∙ a.same.told; number = b.same.number ∙ a.same.number };
  seen = prefix_then p.seen m.seen q.seen a.seen b.seen;
  mine = b.mine ∙ ap (λ steps. steps ++ more) a.mine ∙ append_assoc p.mine one more;
}

pub goes_nowhere : (q : Knowing) → Goes q q []
goes_nowhere q = record {
  same = record { name = refl; limits = refl; told = refl; number = refl };
  seen = ([], sym (append-nil q.seen));
  mine = sym (append-nil q.mine);
}

-- ---- answers of the same document

told_by : (limits now : Limits) (told was : Bool) (store : Storing) (d : Did) → limits ≡ now → told ≡ was
    → ((held : _) → IsTold d.act told store held → outcome (found_in limits (ledger_of d.found) held) d.act ≡ ends d.end)
    → (held : _) → IsTold d.act was store held → outcome (found_in now (ledger_of d.found) held) d.act ≡ ends d.end
told_by limits now told was store d same alike h = λ held is.
    subst (λ l. outcome (found_in l (ledger_of d.found) held) d.act ≡ ends d.end) same (h held (subst (λ t. IsTold d.act t store held) (sym alike) is))

pub answered_same : (p m : Knowing) (store : Storing) (done : List Did) → m.limits ≡ p.limits → m.told ≡ p.told → AreAnswered m store done → AreAnswered p store done
answered_same p m store [] limits told h = tt
answered_same p m store (d ∷ done) limits told h =
    (told_by m.limits p.limits m.told p.told store d limits told h.0, answered_same p m store done limits told h.1)

-- ---- full documents

full_more : (full : Bool) (end : ActEnd) (rest : List ActEnd) → (full ≡ true → end ≡ FullNow) → FullFrom (full_behind full end) rest → FullFrom full (end ∷ rest)
full_more true end rest was h = All-cons (λ e. e ≡ FullNow) end rest (was refl) h
full_more false FullNow rest was h = h
full_more false Said rest was h = h
full_more false (Joined id number) rest was h = h
full_more false (Told last) rest was h = h
full_more false (Entered v) rest was h = h
full_more false TooMany rest was h = h
full_more false (Given reply) rest was h = h

-- ---- replies

replies_more : (fault : Option TalkFault) (first all replies : List Reply) → AreReplies fault all replies → AreReplies fault (first ++ all) (first ++ replies)
replies_more None first all replies h = ap (λ rs. first ++ rs) h
replies_more (Some (Door fault)) first all replies h = ap (λ rs. first ++ rs) h
replies_more (Some (Lane fault)) first all replies h = ap (λ rs. first ++ rs) h
replies_more (Some (Delta fault)) first all replies h = ap (λ rs. first ++ rs) h
replies_more (Some (Store fault)) first all replies h = ap (λ rs. first ++ rs) h
replies_more (Some NoMemory) first all replies h = prefix_behind first replies all h

pub no_replies : (fault : TalkFault) → AreReplies (Some fault) [] []
no_replies (Door fault) = refl
no_replies (Lane fault) = refl
no_replies (Delta fault) = refl
no_replies (Store fault) = refl
no_replies NoMemory = ([], refl)

-- ---- one entry before others

module _ (s : VoiceState) (full : Bool) (p m q : Knowing) (raw : Raw) (end : ActEnd) (one : DoesOne p m (act.Enter raw) end)
    (was : full ≡ true → end ≡ FullNow) (stays : state_after s (act.Enter raw) end ≡ s) where
  found_more : (fault : Option TalkFault) (done : List Did) → AreFound m.number fault m.seen q.seen done → AreFound p.number fault (seen_behind p.number (did_of (act.Enter raw) end one.found one.added)) q.seen done
  found_more fault done h =
      subst (λ seen. AreFound p.number fault seen q.seen done) one.seen (subst (λ n. AreFound n fault m.seen q.seen done) one.goes.same.number h)

  pub enters_more : (acts : List Act) (done : List Did) (replies : List Reply) (fault : Option TalkFault) → EntersAll s (full_behind full end) m q acts done replies fault
      → EntersAll s full p q (act.Enter raw ∷ acts) (did_of (act.Enter raw) end one.found one.added ∷ done) (entry_replies (document_name s) end ++ replies) fault
  enters_more acts done replies fault h = record {
    rest = h.rest;
    asked = ap (λ xs. act.Enter raw ∷ xs) h.asked;
    whole = h.whole;
    cause = h.cause;
    are_done = (one.is_done, h.are_done);
    full_stays = full_more full end (ends_in done) was h.full_stays;
    goes = subst (λ added. Goes p q added) (sym (append_assoc one.added (steps_in done) (may_steps fault))) (goes_on p m q one.added (steps_in done ++ may_steps fault) one.goes h.goes);
    found = (one.begins, found_more fault done h.found);
    answered = λ store. (one.answered store, answered_same p m store done one.goes.same.limits one.goes.same.told (h.answered store));
    told = subst (λ t. AreReplies fault (entry_replies (document_name s) end ++ replies_behind t (ended done)) (entry_replies (document_name s) end ++ replies)) (sym stays)
        (replies_more fault (entry_replies (document_name s) end) (replies_behind s (ended done)) replies h.told);
  }

nothing_full : (b : Bool) → FullFrom b []
nothing_full true = All-nil (λ e. e ≡ FullNow)
nothing_full false = tt

-- nothing more is entered
pub enters_none : (s : VoiceState) (full : Bool) (q : Knowing) → EntersAll s full q q [] [] [] None
enters_none s full q = record {
  rest = [];
  asked = refl;
  whole = λ none. refl;
  cause = λ before now. tt;
  are_done = tt;
  full_stays = nothing_full full;
  goes = goes_nowhere q;
  found = refl;
  answered = λ store. tt;
  told = refl;
}

-- an entry that fails is the first of the rest
pub enters_fails : (s : VoiceState) (full : Bool) (p m : Knowing) (raw : Raw) (fault : TalkFault) → FailsOne p m (act.Enter raw) fault → (acts : List Act)
    → EntersAll s full p m (act.Enter raw ∷ acts) [] [] (Some fault)
enters_fails s full p m raw fault fails acts = record {
  rest = act.Enter raw ∷ acts;
  asked = refl;
  whole = λ none. absurd (some_none none);
  cause = fails.cause;
  are_done = tt;
  full_stays = nothing_full full;
  goes = fails.goes;
  found = fails.goes.seen;
  answered = λ store. tt;
  told = no_replies fault;
}
  where
    some_none : ◌≡◌ {A = Option TalkFault} (Some fault) None → ⊥
    some_none same = cc

pub memory_cause : (q : Knowing) (before now : Storing) (acts : List Act) → IsCauseAt q before now acts NoMemory
memory_cause q before now [] = tt
memory_cause q before now (a ∷ acts) = tt

-- what is said to an entry that was done found no memory
pub enters_lost : (s : VoiceState) (full : Bool) (p m : Knowing) (raw : Raw) (end : ActEnd) (one : DoesOne p m (act.Enter raw) end) → (full ≡ true → end ≡ FullNow)
    → (prefix : List Reply) → IsPrefix prefix (entry_replies (document_name s) end) → (acts : List Act)
    → EntersAll s full p m (act.Enter raw ∷ acts) (did_of (act.Enter raw) end one.found one.added ∷ []) prefix (Some NoMemory)
enters_lost s full p m raw end one was prefix begins acts = record {
  rest = acts;
  asked = refl;
  whole = λ none. absurd (some_none none);
  cause = λ before now. memory_cause m before now acts;
  are_done = (one.is_done, tt);
  full_stays = full_more full end [] was (nothing_full (full_behind full end));
  goes = subst (λ added. Goes p m added) (sym (append-nil (one.added ++ []) ∙ append-nil one.added)) one.goes;
  found = (one.begins, ([], one.seen ∙ sym (append-nil (seen_behind p.number (did_of (act.Enter raw) end one.found one.added)))));
  answered = λ store. (one.answered store, tt);
  told = subst (λ all. IsPrefix prefix all) (sym (append-nil (entry_replies (document_name s) end))) begins;
}
  where
    some_none : ◌≡◌ {A = Option TalkFault} (Some NoMemory) None → ⊥
    some_none same = cc
