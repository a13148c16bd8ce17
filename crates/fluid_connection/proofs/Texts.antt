-- The submissions of a text, one after another.
use Rattle.std.proofs.Common.{◌≡◌, ◌∙◌, ℕ, ◌+◌, ◌<◌, ◌≤◌, ◌^◌, ◌&&◌, nat_le, Bool, true, false, List, [], ◌∷◌, ◌++◌, length, Option, Some, None, Result, Ok, Err, IfOk, IfErr, if◌then◌else◌, append-nil, append_assoc, refl, sym, ap, subst, arith}
use Rattle.fluid_json.specs.declared.memory.NoMemory.{NoMemory}
use Rattle.fluid_types.specs.declared.entries.Raw.{Raw}
use Rattle.fluid_types.specs.declared.entries.Raw.TheVariants.{Join, Leave, Submit, Report}
use Rattle.fluid_types.specs.declared.verdicts.Verdict.{Verdict}
use Rattle.fluid_rules.specs.Rules.{verdict}
use Rattle.fluid_rules.specs.Counted.{counted, is_counted}
use Rattle.fluid_codec.specs.declared.replies.Reply.{Reply}
use Rattle.fluid_voice.specs.declared.states.VoiceState.{VoiceState}
use Rattle.fluid_voice.specs.declared.actions.Act.{Act}
use Rattle.fluid_voice.specs.declared.actions.Act.TheVariants as act
use Rattle.fluid_voice.specs.declared.ends.ActEnd.{ActEnd}
use Rattle.fluid_voice.specs.declared.ends.ActEnd.TheVariants.{Said, Joined, Told, Entered, FullNow, TooMany, Given}
use Rattle.fluid_voice.specs.States.{document_name}
use Rattle.fluid_voice.specs.Replies.{entry_replies, entered_verdict, state_after, one_where}
use Rattle.fluid_voice.specs.Ends.Outcome.{ends}
use Rattle.fluid_ends.specs.declared.fault.TalkFault.{TalkFault}
use Rattle.fluid_talk.specs.Talking.{Knowing, ledger_of}
use Rattle.fluid_talk.specs.Doing.{Did, ended}
use Rattle.fluid_connection.specs.declared.telling.Counts.{Counts}
use Rattle.fluid_connection.specs.declared.telling.Answered.{Answered as ATold}
use Rattle.fluid_connection.specs.Entering.{IsFullAt, LimitBy, did_of, DoesOne, FailsOne}
use Rattle.fluid_connection.specs.Telling.{HasRoom, no_counts, with_end, with_ends, full_behind, TellsPrefix}
use Rattle.fluid_connection.specs.Running.{EntersAll, EntersText, IsSubmit, AreSubmissions, NextEntered, NextStops, NextDoes, lost}
use Rattle.fluid_connection.proofs.Running.{goes_nowhere, enters_more, enters_none, enters_fails, enters_lost}

-- ---- submissions

pub submit_counts : (raw : Raw) → IsSubmit raw → is_counted raw ≡ true
submit_counts (Submit id submission moment) is = refl
submit_counts (Join id scopes detail moment) is = absurd is
submit_counts (Leave id moment) is = absurd is
submit_counts (Report summary found moment) is = absurd is

submit_stays : (s : VoiceState) (raw : Raw) (end : ActEnd) → IsSubmit raw → state_after s (act.Enter raw) end ≡ s
submit_stays s (Submit id submission moment) end is = refl
submit_stays s (Join id scopes detail moment) end is = absurd is
submit_stays s (Leave id moment) end is = absurd is
submit_stays s (Report summary found moment) end is = absurd is

both_true : (a b : Bool) → a ≡ true → b ≡ true → (a && b) ≡ true
both_true true b is_a is_b = is_b
both_true false b is_a is_b = is_a

-- a submission to a document that was found full isn't asked
pub unasked : (p : Knowing) (raw : Raw) → IsFullAt p → is_counted raw ≡ true → DoesOne p p (act.Enter raw) FullNow
unasked p raw full counts = record {
  found = p.seen;
  added = [];
  begins = ([], sym (append-nil p.seen));
  seen = sym (append-nil p.seen);
  goes = goes_nowhere p;
  is_done = record { suits = tt; adds = refl };
  answered = λ store held told.
      ap (λ b. ends (if b then FullNow else Entered (verdict (ledger_of p.seen) raw))) (both_true (is_counted raw) (nat_le p.limits.entries (counted (ledger_of p.seen))) counts (full told));
  limit = full;
}

full_now : (old : Bool) (end : ActEnd) → (old ≡ true → end ≡ FullNow) → full_behind old end ≡ true → end ≡ FullNow
full_now true end was is = was refl
full_now false FullNow was is = refl
full_now false Said was is = absurd (never is)
  where
    never : false ≡ true → ⊥
    never same = cc
full_now false (Joined id number) was is = absurd (never is)
  where
    never : false ≡ true → ⊥
    never same = cc
full_now false (Told last) was is = absurd (never is)
  where
    never : false ≡ true → ⊥
    never same = cc
full_now false (Entered v) was is = absurd (never is)
  where
    never : false ≡ true → ⊥
    never same = cc
full_now false TooMany was is = absurd (never is)
  where
    never : false ≡ true → ⊥
    never same = cc
full_now false (Given reply) was is = absurd (never is)
  where
    never : false ≡ true → ⊥
    never same = cc

-- ---- counts

same_counts : (a b c d e f g h : ℕ) → a ≡ e → b ≡ f → c ≡ g → d ≡ h
    → ◌≡◌ {A = Counts} (record { sequenced = a; dropped = b; nacked = c; absorbed = d }) (record { sequenced = e; dropped = f; nacked = g; absorbed = h })
same_counts a b c d e f g h one two three four = rw (one, two, three, four) refl

counts_none : (c : Counts) → with_ends c [] ≡ c
counts_none c = same_counts _ _ _ _ _ _ _ _ (omega arith) (omega arith) (omega arith) (omega arith)

pub counts_one : (c : Counts) (a : Act) (end : ActEnd) → with_end c end ≡ with_ends c ((a, end) ∷ [])
counts_one c a end = same_counts _ _ _ _ _ _ _ _ (omega arith) (omega arith) (omega arith) (omega arith)

counts_more : (c : Counts) (a : Act) (end : ActEnd) (done : List (Act × ActEnd)) → with_ends (with_end c end) done ≡ with_ends c ((a, end) ∷ done)
counts_more c a end done = same_counts _ _ _ _ _ _ _ _ (omega arith) (omega arith) (omega arith) (omega arith)

-- ---- one of them

module _ (s : VoiceState) (old new : ATold) (p m : Knowing) (raw : Raw) (is : IsSubmit raw) where
  pub next_told : (end : ActEnd) (one : DoesOne p m (act.Enter raw) end) → (old.full ≡ true → end ≡ FullNow) → new.counts ≡ with_end old.counts end → new.full ≡ full_behind old.full end
      → (result : Result (Unit {0}) NoMemory) → IfOk result (λ _. new.replies.items ≡ old.replies.items ++ entry_replies (document_name s) end)
      → IfErr result (λ _. TellsPrefix (entry_replies (document_name s) end) old.replies.items new.replies.items) → NextDoes s old new p m (act.Enter raw) (lost result)
  next_told end one was counts full (Ok done) said prefix = record {
    did = did_of (act.Enter raw) end one.found one.added;
    more = entry_replies (document_name s) end;
    leads = λ q acts done replies fault h. enters_more s old.full p m q raw end one was (submit_stays s raw end is) acts done replies fault (subst (λ b. EntersAll s b m q acts done replies fault) full h);
    said = said;
    counts = counts;
    full = λ now_full. subst (λ e. LimitBy e m) (full_now old.full end was (sym full ∙ now_full)) one.limit;
  }
  next_told end one was counts full (Err refused) said prefix = record {
    done = did_of (act.Enter raw) end one.found one.added ∷ [];
    more = prefix.prefix;
    stops = enters_lost s old.full p m raw end one was prefix.prefix prefix.begins;
    said = prefix.said;
    counts = counts ∙ counts_one old.counts (act.Enter raw) end;
  }

  pub next_fails : (fault : TalkFault) → FailsOne p m (act.Enter raw) fault → new.replies.items ≡ old.replies.items → new.counts ≡ old.counts → NextDoes s old new p m (act.Enter raw) (Err fault)
  next_fails fault fails replies counts = record {
    done = [];
    more = [];
    stops = enters_fails s old.full p m raw fault fails;
    said = replies ∙ sym (append-nil old.replies.items);
    counts = counts ∙ sym (counts_none old.counts);
  }

-- ---- all of them

pub record Progress (s : VoiceState) (p m : Knowing) (acts rest : List Act) (told : ATold) (most : ℕ) : Type 0 where
  pub leads : (q : Knowing) (done : List Did) (replies : List Reply) (fault : Option TalkFault) → EntersAll s told.full m q rest done replies fault
      → (all : List Did) × (EntersAll s false p q acts all (told.replies.items ++ replies) fault × (with_ends told.counts (ended done) ≡ with_ends no_counts (ended all)))
  pub full : told.full ≡ true → IsFullAt m
  pub subs : AreSubmissions rest
  pub sequenced : told.counts.sequenced + length rest ≤ most
  pub dropped : told.counts.dropped + length rest ≤ most
  pub nacked : told.counts.nacked + length rest ≤ most
  pub absorbed : told.counts.absorbed + length rest ≤ most

pub first : (s : VoiceState) (p : Knowing) (acts : List Act) (told : ATold) → AreSubmissions acts → told.replies.items ≡ [] → told.counts ≡ no_counts → told.full ≡ false
    → Progress s p p acts acts told (length acts)
first s p acts told subs replies counts full = record {
  leads = λ q done more fault h. (
    done,
    (
      subst (λ b. EntersAll s b p q acts done (told.replies.items ++ more) fault) full (subst (λ rs. EntersAll s told.full p q acts done (rs ++ more) fault) (sym replies) h),
      ap (λ c. with_ends c (ended done)) counts,
    ),
  );
  full = λ is. absurd (true_is (sym is ∙ full));
  subs = subs;
  sequenced = omega (arith, ap (λ c. c.sequenced) counts);
  dropped = omega (arith, ap (λ c. c.dropped) counts);
  nacked = omega (arith, ap (λ c. c.nacked) counts);
  absorbed = omega (arith, ap (λ c. c.absorbed) counts);
}
  where
    true_is : true ≡ false → ⊥
    true_is same = cc

pub has_room : (s : VoiceState) (p m : Knowing) (acts : List Act) (a : Act) (rest : List Act) (told : ATold) (most : ℕ) → Progress s p m acts (a ∷ rest) told most → most < 2 ^ 64 → HasRoom told.counts
has_room s p m acts a rest told most h fits = record {
  sequenced = omega (arith, h.sequenced, fits);
  dropped = omega (arith, h.dropped, fits);
  nacked = omega (arith, h.nacked, fits);
  absorbed = omega (arith, h.absorbed, fits);
}

at_most_one : (kind : Verdict → Bool) (o : Option Verdict) → one_where kind o ≤ 1
at_most_one kind None = omega arith
at_most_one kind (Some v) = by (kind v)
  where
    by : (b : Bool) → (if b then 1 else 0) ≤ 1
    by true = omega arith
    by false = omega arith

module _ (s : VoiceState) (p m n : Knowing) (acts : List Act) (a : Act) (rest : List Act) (old new : ATold) (most : ℕ) (h : Progress s p m acts (a ∷ rest) old most) where
  joined_replies : (more replies : List Reply) → new.replies.items ≡ old.replies.items ++ more → old.replies.items ++ (more ++ replies) ≡ new.replies.items ++ replies
  joined_replies more replies said = sym (append_assoc old.replies.items more replies) ∙ ap (λ rs. rs ++ replies) (sym said)

  grown : (kind : Verdict → Bool) (end : ActEnd) (before now : ℕ) → now ≡ before + one_where kind (entered_verdict end) → before + length (a ∷ rest) ≤ most → now + length rest ≤ most
  grown kind end before now is le = omega (arith, is, le, at_most_one kind (entered_verdict end))

  pub goes_on : NextEntered s old new m n a → Progress s p n acts rest new most
  goes_on next = record {
    leads = λ q done replies fault behind.
        let w = h.leads q (next.did ∷ done) (next.more ++ replies) fault (next.leads q rest done replies fault behind) in (
          w.0,
          (
            subst (λ rs. EntersAll s false p q acts w.0 rs fault) (joined_replies next.more replies next.said) w.1.0,
            ap (λ c. with_ends c (ended done)) next.counts ∙ counts_more old.counts next.did.act next.did.end (ended done) ∙ w.1.1,
          ),
        );
    full = next.full;
    subs = h.subs.1;
    sequenced = grown _ next.did.end old.counts.sequenced new.counts.sequenced (ap (λ c. c.sequenced) next.counts) h.sequenced;
    dropped = grown _ next.did.end old.counts.dropped new.counts.dropped (ap (λ c. c.dropped) next.counts) h.dropped;
    nacked = grown _ next.did.end old.counts.nacked new.counts.nacked (ap (λ c. c.nacked) next.counts) h.nacked;
    absorbed = grown _ next.did.end old.counts.absorbed new.counts.absorbed (ap (λ c. c.absorbed) next.counts) h.absorbed;
  }

  pub stops : (fault : TalkFault) → NextStops s old new m n a fault → EntersText s p n acts new (Some fault)
  stops fault next =
      let w = h.leads n next.done next.more (Some fault) (next.stops rest) in
      record {
        done = w.0;
        does = subst (λ rs. EntersAll s false p n acts w.0 rs (Some fault)) (sym next.said) w.1.0;
        counts = next.counts ∙ w.1.1;
      }

pub ends_all : (s : VoiceState) (p m : Knowing) (acts rest : List Act) (told : ATold) (most : ℕ) → rest ≡ [] → Progress s p m acts rest told most → EntersText s p m acts told None
ends_all s p m acts rest told most none h =
    let w = h.leads m [] [] None (subst (λ r. EntersAll s told.full m m r [] [] None) (sym none) (enters_none s told.full m)) in
    record {
      done = w.0;
      does = subst (λ rs. EntersAll s false p m acts w.0 rs None) (append-nil told.replies.items) w.1.0;
      counts = sym (counts_none told.counts) ∙ w.1.1;
    }
