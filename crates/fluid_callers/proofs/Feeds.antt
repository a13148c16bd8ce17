-- Op events, one after another.
use Rattle.std.proofs.Common.{◌≡◌, ℕ, zero, suc, ◌<◌, ◌≤◌, arith, List, [], ◌∷◌, ◌++◌, length, map, take, drop, Result, Ok, Err, refl, sym, ap, ◌∙◌, append_assoc, append-nil, length-append, length-drop}
use Rattle.std.specs.Prelude.{OnOk}
use Rattle.fluid_types.specs.declared.messages.Message.{Message}
use Rattle.fluid_codec.specs.declared.replies.Reply.TheVariants.{Ops}
use Rattle.fluid_voice.specs.Feed.{most_in_event, batched, batches, events}
use Rattle.fluid_transcript.specs.Lines.{reply_line}
use Rattle.fluid_transcript.specs.Transcript.{written}
use Rattle.fluid_callers.specs.Hearing.{event_lines}
use Rattle.fluid_callers.proofs.Bytes.{one_more}

-- how many batches may be made is no matter, where it is as many as there are messages
batched_same : (a b : ℕ) (ms : List Message) → length ms ≤ a → length ms ≤ b → batched a ms ≡ batched b ms
batched_same zero zero ms x y = refl
batched_same zero (suc b) [] x y = refl
batched_same zero (suc b) (m ∷ ms) x y = absurd (omega (arith, x))
batched_same (suc a) zero [] x y = refl
batched_same (suc a) zero (m ∷ ms) x y = absurd (omega (arith, y))
batched_same (suc a) (suc b) [] x y = refl
batched_same (suc a) (suc b) (m ∷ ms) x y =
    ap (λ rest. take most_in_event (m ∷ ms) ∷ rest)
    (batched_same a b (drop most_in_event (m ∷ ms)) (omega (arith, x, length-drop 63 ms)) (omega (arith, y, length-drop 63 ms)))

take_prefix : (n : ℕ) (prefix behind : List Message) → length prefix ≡ n → take n (prefix ++ behind) ≡ prefix
take_prefix zero [] behind is = refl
take_prefix zero (m ∷ prefix) behind is = absurd (omega (arith, is))
take_prefix (suc n) [] behind is = absurd (omega (arith, is))
take_prefix (suc n) (m ∷ prefix) behind is = ap (λ rest. m ∷ rest) (take_prefix n prefix behind (omega (arith, is)))

drop_prefix : (n : ℕ) (prefix behind : List Message) → length prefix ≡ n → drop n (prefix ++ behind) ≡ behind
drop_prefix zero [] behind is = refl
drop_prefix zero (m ∷ prefix) behind is = absurd (omega (arith, is))
drop_prefix (suc n) [] behind is = absurd (omega (arith, is))
drop_prefix (suc n) (m ∷ prefix) behind is = drop_prefix n prefix behind (omega (arith, is))

-- as many messages as one event has, and others behind them
full_batch : (prefix behind : List Message) → length prefix ≡ most_in_event → batches (prefix ++ behind) ≡ prefix ∷ batches behind
unfolding batches
full_batch [] behind is = absurd (omega (arith, is))
full_batch (m ∷ prefix) behind is =
    ap (λ first. first ∷ batched (length (prefix ++ behind)) (drop most_in_event (m ∷ (prefix ++ behind)))) (take_prefix most_in_event (m ∷ prefix) behind is)
    ∙ ap (λ rest. (m ∷ prefix) ∷ batched (length (prefix ++ behind)) rest) (drop_prefix most_in_event (m ∷ prefix) behind is)
    ∙ ap (λ rest. (m ∷ prefix) ∷ rest) (batched_same (length (prefix ++ behind)) (length behind) behind (omega (arith, length-append prefix behind)) (omega arith))

none_batched : (n : ℕ) → batched n [] ≡ []
none_batched zero = refl
none_batched (suc n) = refl

take_few : (n : ℕ) (ms : List Message) → length ms ≤ n → take n ms ≡ ms
take_few zero [] le = refl
take_few (suc n) [] le = refl
take_few zero (m ∷ ms) le = absurd (omega (arith, le))
take_few (suc n) (m ∷ ms) le = ap (λ rest. m ∷ rest) (take_few n ms (omega (arith, le)))

drop_few : (n : ℕ) (ms : List Message) → length ms ≤ n → drop n ms ≡ []
drop_few zero [] le = refl
drop_few (suc n) [] le = refl
drop_few zero (m ∷ ms) le = absurd (omega (arith, le))
drop_few (suc n) (m ∷ ms) le = drop_few n ms (omega (arith, le))

-- fewer than may be are one event
last_batch : (m : Message) (prefix : List Message) → length (m ∷ prefix) ≤ most_in_event → batches (m ∷ prefix) ≡ (m ∷ prefix) ∷ []
unfolding batches
last_batch m prefix few =
    ap (λ first. first ∷ batched (length prefix) (drop most_in_event (m ∷ prefix))) (take_few most_in_event (m ∷ prefix) few)
    ∙ ap (λ rest. (m ∷ prefix) ∷ batched (length prefix) rest) (drop_few most_in_event (m ∷ prefix) few)
    ∙ ap (λ rest. (m ∷ prefix) ∷ rest) (none_batched (length prefix))

-- ---- lines of events

-- what holds at Ok carries over
pub on_ok : {A E : Type 0} (r : Result A E) (P Q : Type 0) → (P → Q) → OnOk r P → OnOk r Q
on_ok (Ok a) P Q f h = f h
on_ok (Err e) P Q f h = tt

no_lines : (c document : List ℕ) → event_lines c document [] ≡ []
unfolding batches
no_lines c document = refl

module _ (c document : List ℕ) where
  -- an event is as large as may be: its line was put behind the others
  pub event_full : (old new : List ℕ) (event : List Message) (message : Message) → length (event ++ message ∷ []) ≡ most_in_event
      → new ≡ old ++ written (reply_line c (Ops document (event ++ message ∷ [])) ∷ [])
      → (ahead : List Message) → new ++ event_lines c document ([] ++ ahead) ≡ old ++ event_lines c document (event ++ message ∷ ahead)
  event_full old new event message full new_is ahead =
      let batches_are : batches (event ++ message ∷ ahead) ≡ (event ++ message ∷ []) ∷ batches ahead =
      ap batches (sym (append_assoc event (message ∷ []) ahead)) ∙ full_batch (event ++ message ∷ []) ahead full in
      one_more old new (new ++ event_lines c document ahead) (reply_line c (Ops document (event ++ message ∷ [])) ∷ []) (map (reply_line c) (events document ahead)) new_is refl
      ∙ ap (λ bs. old ++ written (map (reply_line c) (map (Ops document) bs))) (sym batches_are)

  -- one message more of an event that isn't as large as may be
  pub event_more : (old : List ℕ) (event : List Message) (message : Message) (more : List Message) → more ≡ event ++ message ∷ []
      → (ahead : List Message) → old ++ event_lines c document (more ++ ahead) ≡ old ++ event_lines c document (event ++ message ∷ ahead)
  event_more old event message more is ahead = ap (λ ms. old ++ event_lines c document ms) (ap (λ m. m ++ ahead) is ∙ append_assoc event (message ∷ []) ahead)

  -- the last event, which has a message
  pub event_last : (old mid new : List ℕ) (event all : List Message) → mid ++ event_lines c document (event ++ []) ≡ old ++ event_lines c document all → 0 < length event → length event ≤ most_in_event
      → new ≡ mid ++ written (reply_line c (Ops document event) ∷ []) → new ≡ old ++ event_lines c document all
  event_last old mid new [] all whole some few new_is = absurd (omega (arith, some))
  event_last old mid new (m ∷ prefix) all whole some few new_is =
      new_is
      ∙ ap (λ bs. mid ++ written (map (reply_line c) (map (Ops document) bs))) (sym (last_batch m prefix few) ∙ ap batches (sym (append-nil (m ∷ prefix))))
      ∙ whole

  -- no event is left
  pub event_none : (old mid : List ℕ) (event all : List Message) → mid ++ event_lines c document (event ++ []) ≡ old ++ event_lines c document all → length event ≡ 0 → mid ≡ old ++ event_lines c document all
  event_none old mid [] all whole none = sym (append-nil mid) ∙ ap (λ more. mid ++ more) (sym (no_lines c document)) ∙ whole
  event_none old mid (m ∷ prefix) all whole none = absurd (omega (arith, none))
