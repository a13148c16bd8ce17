-- In the order of a legal ledger numbers rise, each answer stands behind the summarize that it names, and each summaryAck acknowledges it.
use Rattle.std.proofs.Common.{◌≡◌, ℕ, zero, suc, ◌+◌, ◌≤◌, ◌<◌, ◌==◌, Bool, true, false, not, ◌||◌, if◌then◌else◌, List, [], ◌∷◌, ◌++◌, length, length-append, Option, Some, None, option_map, is_some, refl, sym, ◌∙◌, subst, append-nil, append_assoc, inl, inr, ◌⊎◌, arith, All}
use Rattle.std.specs.Prelude.{find, slice_get}
use Rattle.std.specs.List.{list_any}
use Rattle.std.proofs.lemmas.Bool.{eqb-true, eq-eqb, ne_eqb}
use Rattle.std.proofs.lemmas.List.Kept.{AllPairs-cons}
use Rattle.fluid_types.specs.declared.entries.Raw.{Raw}
use Rattle.fluid_types.specs.declared.entries.Raw.TheVariants.{Join, Leave, Submit, Report}
use Rattle.fluid_types.specs.declared.entries.Offered.{Offered}
use Rattle.fluid_types.specs.declared.entries.Offered.TheVariants as offered
use Rattle.fluid_types.specs.declared.messages.Kind.{Kind}
use Rattle.fluid_types.specs.declared.messages.Kind.TheVariants as kind
use Rattle.fluid_types.specs.declared.messages.Message.{Message}
use Rattle.fluid_types.specs.declared.verdicts.Verdict.{Verdict}
use Rattle.fluid_types.specs.declared.verdicts.Verdict.TheVariants.{Sequenced, Nacked, Dropped, Absorbed}
use Rattle.fluid_types.specs.Blobs.{blobs}
use Rattle.fluid_types.specs.Ledger.{Ledger, messages_of, order, seq}
use Rattle.fluid_types.proofs.Ledgers.{order-push}
use Rattle.fluid_types.specs.Order.{AreNumberedFrom}
use Rattle.fluid_types.proofs.Numbers.{numbered_more, numbered_least, numbered_most}
use Rattle.fluid_tree.specs.Laws.{IsIdReadBack}
use Rattle.fluid_rules.specs.Rules.{first_case, kind_of, answer_message, settled, unsettled, message, verdict, IsLegal}
use Rattle.fluid_rules.specs.Scribe.{is_ack, is_answer, is_stale, is_old, last_ack, handling, is_number, answers, answered_by, unanswered, pending, acknowledged, reference_of, proposed_by, version, judged, answer_to, answer_by, answer, ack_contents, refusal_contents, reported}
use Rattle.fluid_rules.specs.declared.answers.Answer.{Answer}
use Rattle.fluid_rules.specs.declared.answers.Answer.TheVariants as said
use Rattle.fluid_rules.specs.declared.answers.Proposed.{Proposed}
use Rattle.fluid_rules.specs.declared.answers.SummaryRule.{SummaryRule}
use Rattle.fluid_rules.specs.declared.answers.SummaryRule.TheVariants.{StaleHead, OldReference, Missing}
use Rattle.hex.specs.Hex.{IsBytes}
use Rattle.fluid_rules.specs.ScribeLaws.{AreRising, AreAnsweredBehind, AreAcknowledging, OrdersAreAnsweredInTurn}
use Rattle.fluid_rules.proofs.Handles.{version-size, version-bytes}
use Rattle.fluid_rules.proofs.Legal.{legal-induction}
use Rattle.fluid_rules.proofs.Summaries.{says_what_is_meant}
use Rattle.fluid_rules.proofs.Verdicts.{some_message, verdict-is_message, message-number}

-- ---- rising numbers

numbered-rising : (n : ℕ) (ms : List Message) → AreNumberedFrom n ms → AreRising ms
numbered-rising n [] h = λ i j d lt within. absurd (omega (arith, within))
numbered-rising n (m ∷ ms) h =
    AllPairs-cons (λ m later. m.number < later.number) m ms
    (λ k d lt. let later = numbered_least ms (suc n) h.1 k d lt in omega (arith, h.0, later))
    (numbered-rising (suc n) ms h.1)

-- ---- messages whose numbers are known

abbrev AreUpTo : ℕ → List Message → Type 0
AreUpTo n [] = Unit {0}
AreUpTo n (m ∷ ms) = (m.number ≤ n) × AreUpTo n ms

up_to : (n : ℕ) (ms : List Message) → All (λ m. m.number ≤ n) ms → AreUpTo n ms
up_to n [] h = tt
up_to n (m ∷ ms) h = (h zero m (omega arith), up_to n ms (λ k d lt. h (suc k) d (omega arith)))

numbered-up_to : (n k : ℕ) (ms : List Message) → AreNumberedFrom n ms → n + length ms ≤ k + 1 → AreUpTo k ms
numbered-up_to n k ms h le = up_to k ms (numbered_most ms n k h le)

one_waits : (n : ℕ) (waits : Bool) (m p : Message) (ms : List Message) → m.number ≤ n → (slice_get ms 0 ≡ Some p → p.number ≤ n) →
    slice_get ((if waits then m ∷ [] else []) ++ ms) 0 ≡ Some p → p.number ≤ n
one_waits n true m p ms le rest is = let same : m ≡ p = some_message m p is in rw (sym same) le
one_waits n false m p ms le rest is = rest is

-- the pending summarize is one of the messages
pending-up_to : (n : ℕ) (ms : List Message) (p : Message) → AreUpTo n ms → pending ms ≡ Some p → p.number ≤ n
unfolding unanswered
pending-up_to n [] p h is = absurd (cc)
pending-up_to n (m ∷ ms) p h is = one_waits n _ m p (unanswered ms) h.0 (pending-up_to n ms p h.1) is

-- ---- what an answer says of the order

-- an answer that isn't Dropped is to the pending summarize
record IsPending (ms : List Message) (summary : ℕ) (found : Bool) (a : Answer) : Type 0 where
  pub it : Message
  pub is : pending ms ≡ Some it
  pub number_is : it.number ≡ summary
  pub answer_is : answer_to ms found it ≡ a

answered_at : (same : Bool) (ms : List Message) (summary : ℕ) (found : Bool) (p : Message) (a : Answer) → pending ms ≡ Some p → p.number == summary ≡ same →
    (if same then answer_to ms found p else said.Dropped) ≡ a → (a ≡ said.Dropped) ⊎ IsPending ms summary found a
answered_at true ms summary found p a there same is = inr (record { it = p; is = there; number_is = eqb-true p.number summary same; answer_is = is })
answered_at false ms summary found p a there same is = inl (sym is)

answered_of : (ms : List Message) (summary : ℕ) (found : Bool) (o : Option Message) (a : Answer) → pending ms ≡ o → answer_by ms summary found o ≡ a →
    (a ≡ said.Dropped) ⊎ IsPending ms summary found a
answered_of ms summary found None a there is = inl (sym is)
answered_of ms summary found (Some p) a there is = answered_at (p.number == summary) ms summary found p a there refl is

answered_pending : (ms : List Message) (summary : ℕ) (found : Bool) (a : Answer) → answer ms summary found ≡ a → (a ≡ said.Dropped) ⊎ IsPending ms summary found a
unfolding answer
answered_pending ms summary found a is = answered_of ms summary found (pending ms) a refl is

-- a report that isn't dropped is on one of the messages
pub answer-up_to : (n : ℕ) (ms : List Message) (summary : ℕ) (found : Bool) → All (λ m. m.number ≤ n) ms → (answer ms summary found ≡ said.Dropped) ⊎ (summary ≤ n)
answer-up_to n ms summary found h =
    elim (answered_pending ms summary found (answer ms summary found) refl) [
      | inl dropped ↦ inl dropped
      | inr it ↦ inr (let low = pending-up_to n ms it.it (up_to n ms h) it.is in omega (arith, it.number_is, low))
    ]

-- ---- a handle is that of a version

-- 20 bytes
record IsHandle (handle : List ℕ) : Type 0 where
  pub size : length handle ≡ 20
  pub bytes : IsBytes handle

refused_chain : (stale old missing : Bool) (app : List ℕ) (texts : List (List ℕ × List ℕ)) (handle : List ℕ) →
    first_case ((stale, said.Refused StaleHead) ∷ (old, said.Refused OldReference) ∷ (missing, said.Refused Missing) ∷ []) (said.Ack (version app texts)) ≡ said.Ack handle → IsHandle handle
refused_chain true old missing app texts handle h = absurd (cc)
refused_chain false true missing app texts handle h = absurd (cc)
refused_chain false false true app texts handle h = absurd (cc)
refused_chain false false false app texts handle h =
    let same : version app texts ≡ handle = cc in rw (sym same) (record { size = version-size app texts; bytes = version-bytes app texts })

judged_handle : (ms : List Message) (reference : ℕ) (found : Bool) (proposed : Option Proposed) (handle : List ℕ) → judged ms reference found proposed ≡ said.Ack handle → IsHandle handle
judged_handle ms reference found None handle h = absurd (cc)
judged_handle ms reference found (Some p) handle h = refused_chain (is_stale (last_ack ms) p) (is_old (last_ack ms) reference) (not found) p.app (blobs ms reference) handle h

answer_handle : (ms : List Message) (found : Bool) (m : Message) (handle : List ℕ) → answer_to ms found m ≡ said.Ack handle → IsHandle handle
unfolding answer_to
answer_handle ms found m handle h = judged_handle ms (reference_of m) found (proposed_by m) handle h

-- ---- the message of an answer

-- what the next message of an order says: an answer names an earlier number, and a summaryAck acknowledges
record IsInTurn (ms : List Message) (m : Message) : Type 0 where
  pub named : (k : ℕ) → answered_by m ≡ Some k → k ≤ length ms
  pub acknowledges : is_ack m.kind ≡ true → is_some (acknowledged ms m) ≡ true

no_ack : (k : Kind) → is_answer k ≡ false → is_ack k ≡ false
no_ack kind.Op h = refl
no_ack kind.Noop h = refl
no_ack kind.Propose h = refl
no_ack kind.Reject h = refl
no_ack kind.Summarize h = refl
no_ack kind.Join h = refl
no_ack kind.Leave h = refl
no_ack kind.SummaryAck h = absurd (cc)
no_ack kind.SummaryNack h = refl

-- a message that is no answer
other_in_turn : (ms : List Message) (m : Message) → is_answer m.kind ≡ false → IsInTurn ms m
unfolding answered_by
other_in_turn ms m h = record {
  named = λ k is. absurd (let no : None ≡ Some k = rw h at is in cc);
  acknowledges = λ ack. absurd (let no : true ≡ false = sym ack ∙ no_ack m.kind h in cc);
}

first_found : (ws : List Message) (p : Message) (summary : ℕ) → slice_get ws 0 ≡ Some p → p.number ≡ summary → is_some (find (λ s. s.number == summary) ws) ≡ true
first_found [] p summary is at = absurd (cc)
first_found (w ∷ ws) p summary is at =
    let same : w ≡ p = some_message w p is in
    let equal : (w.number == summary) ≡ true = rw same (eq-eqb p.number summary at) in
    rw equal refl

acknowledged_at : (ms : List Message) (m : Message) (handle : List ℕ) (summary : ℕ) (o : Option Message) → handling m.contents ≡ Some handle →
    answered_by m ≡ Some summary → find (λ s. s.number == summary) (unanswered ms) ≡ o → is_some o ≡ true → is_some (acknowledged ms m) ≡ true
acknowledged_at ms m handle summary None handled named is there = absurd (cc)
acknowledged_at ms m handle summary (Some s) handled named is there = rw (handled, named, is) refl

-- a summaryAck of the pending summarize
ack_in_turn : IsIdReadBack → (ms : List Message) (summary number moment n : ℕ) (found : Bool) (handle : List ℕ) (m : Message) → AreUpTo (length ms) ms →
    IsPending ms summary found (said.Ack handle) → m ≡ record (answer_message number moment (kind.SummaryAck, ack_contents summary handle)) { minimum = n } → IsInTurn ms m
unfolding answered_by
ack_in_turn read_back ms summary number moment n found handle m up it is =
    let handled = answer_handle ms found it.it handle it.answer_is in
    let says = says_what_is_meant read_back summary in
    let low = pending-up_to (length ms) ms it.it up it.is in
    let named : answered_by m ≡ Some summary = rw is (says.named handle) in
    record {
      named = λ k at. (let same : summary ≡ k = same_count (sym named ∙ at) in omega (arith, low, it.number_is));
      acknowledges = λ _.
          acknowledged_at ms m handle summary (find (λ s. s.number == summary) (unanswered ms)) (rw is (says.handled handle handled.size handled.bytes)) named refl
          (first_found (unanswered ms) it.it summary it.is it.number_is);
    }
  where
    same_count : {a b : ℕ} → Some a ≡ Some b → a ≡ b
    same_count h = cc

-- a summaryNack of it
nack_in_turn : IsIdReadBack → (ms : List Message) (summary number moment n : ℕ) (found : Bool) (rule : SummaryRule) (m : Message) → AreUpTo (length ms) ms →
    IsPending ms summary found (said.Refused rule) → m ≡ record (answer_message number moment (kind.SummaryNack, refusal_contents summary rule)) { minimum = n } → IsInTurn ms m
unfolding answered_by
nack_in_turn read_back ms summary number moment n found rule m up it is =
    let says = says_what_is_meant read_back summary in
    let low = pending-up_to (length ms) ms it.it up it.is in
    rw is
    (record {
      named = λ k at. (let same : summary ≡ k = same_count (sym (says.refused rule) ∙ at) in omega (arith, low, it.number_is));
      acknowledges = λ ack. absurd (cc);
    })
  where
    same_count : {a b : ℕ} → Some a ≡ Some b → a ≡ b
    same_count h = cc

none_pending : (ms : List Message) (summary : ℕ) (found : Bool) (a : Answer) → (a ≡ said.Dropped → ⊥) → answer ms summary found ≡ a → IsPending ms summary found a
none_pending ms summary found a other is = elim (answered_pending ms summary found a is) [ inl dropped ↦ absurd (other dropped) | inr it ↦ it ]

report_in_turn : IsIdReadBack → (ledger : Ledger) (summary moment : ℕ) (found : Bool) (m : Message) (a : Answer) → AreUpTo (length (order ledger)) (order ledger) →
    answer (order ledger) summary found ≡ a →
    option_map (settled ledger (Report summary found moment)) (option_map (answer_message (seq ledger + 1) moment) (reported summary a)) ≡ Some m → IsInTurn (order ledger) m
report_in_turn read_back ledger summary moment found m said.Dropped up is h = absurd (cc)
report_in_turn read_back ledger summary moment found m (said.Ack handle) up is h =
    ack_in_turn read_back (order ledger) summary _ moment _ found handle m up (none_pending (order ledger) summary found (said.Ack handle) (λ no. cc) is) (sym (some_message _ m h))
report_in_turn read_back ledger summary moment found m (said.Refused rule) up is h =
    nack_in_turn read_back (order ledger) summary _ moment _ found rule m up (none_pending (order ledger) summary found (said.Refused rule) (λ no. cc) is) (sym (some_message _ m h))

offered_no_answer : (k : Offered) → is_answer (kind_of k) ≡ false
offered_no_answer offered.Op = refl
offered_no_answer offered.Noop = refl
offered_no_answer offered.Propose = refl
offered_no_answer offered.Reject = refl
offered_no_answer offered.Summarize = refl

message_in_turn : IsIdReadBack → (ledger : Ledger) (raw : Raw) (m : Message) → AreUpTo (length (order ledger)) (order ledger) → message ledger raw ≡ Some m → IsInTurn (order ledger) m
unfolding message unsettled
message_in_turn read_back ledger (Join id scopes detail moment) m up h = other_in_turn (order ledger) m (rw (sym (some_message _ m h)) refl)
message_in_turn read_back ledger (Leave id moment) m up h = other_in_turn (order ledger) m (rw (sym (some_message _ m h)) refl)
message_in_turn read_back ledger (Submit id submission moment) m up h =
    other_in_turn (order ledger) m (rw (sym (some_message _ m h)) (offered_no_answer submission.kind))
message_in_turn read_back ledger (Report summary found moment) m up h =
    report_in_turn read_back ledger summary moment found m (answer (order ledger) summary found) up refl h

-- ---- one message more

-- answers name numbers up to this one
abbrev AreNaming : ℕ → List Message → Type 0
AreNaming n [] = Unit {0}
AreNaming n (m ∷ ms) = ((k : ℕ) → answered_by m ≡ Some k → k ≤ n) × AreNaming n ms

naming-push : (n : ℕ) (ms : List Message) (m : Message) → AreNaming n ms → ((k : ℕ) → answered_by m ≡ Some k → k ≤ n) → AreNaming (n + 1) (ms ++ m ∷ [])
naming-push n [] m h is = ((λ k at. let low = is k at in omega arith), tt)
naming-push n (x ∷ ms) m h is = ((λ k at. let low = h.0 k at in omega arith), naming-push n ms m h.1 is)

not_this : (number : ℕ) (o : Option ℕ) (rest : Bool) → ((k : ℕ) → o ≡ Some k → k < number) → rest ≡ false → (is_number number o || rest) ≡ false
not_this number None rest below is = is
not_this number (Some k) rest below is = let low = below k refl in let other : (k == number) ≡ false = ne_eqb k number (omega arith) in rw (other, is) refl

none_named : (n number : ℕ) (ms : List Message) → AreNaming n ms → n < number → list_any (answers number) ms ≡ false
none_named n number [] h lt = refl
none_named n number (m ∷ ms) h lt =
    not_this number (answered_by m) (list_any (answers number) ms) (λ k at. let low = h.0 k at in omega arith) (none_named n number ms h.1 lt)

behind-push : (before ms : List Message) (m : Message) → AreAnsweredBehind before ms → list_any (answers m.number) (before ++ ms) ≡ false → AreAnsweredBehind before (ms ++ m ∷ [])
behind-push before [] m h none = ((λ _. subst (λ l. list_any (answers m.number) l ≡ false) (append-nil before) none), tt)
behind-push before (x ∷ ms) m h none = (
  h.0,
  behind-push (before ++ x ∷ []) ms m h.1 (subst (λ l. list_any (answers m.number) l ≡ false) (sym (append_assoc before (x ∷ []) ms)) none),
)

acknowledging-push : (before ms : List Message) (m : Message) → AreAcknowledging before ms → (is_ack m.kind ≡ true → is_some (acknowledged (before ++ ms) m) ≡ true) →
    AreAcknowledging before (ms ++ m ∷ [])
acknowledging-push before [] m h is = ((λ ack. subst (λ l. is_some (acknowledged l m) ≡ true) (append-nil before) (is ack)), tt)
acknowledging-push before (x ∷ ms) m h is = (
  h.0,
  acknowledging-push (before ++ x ∷ []) ms m h.1 (λ ack. subst (λ l. is_some (acknowledged l m) ≡ true) (sym (append_assoc before (x ∷ []) ms)) (is ack)),
)

-- ---- legal ledgers

record AreInTurn (ms : List Message) : Type 0 where
  pub numbered : AreNumberedFrom 1 ms
  pub naming : AreNaming (length ms) ms
  pub behind : AreAnsweredBehind [] ms
  pub acknowledging : AreAcknowledging [] ms

in_turn-push : (ms : List Message) (m : Message) → AreInTurn ms → m.number ≡ length ms + 1 → IsInTurn ms m → AreInTurn (ms ++ m ∷ [])
in_turn-push ms m h at turn =
    let size : length (ms ++ m ∷ []) ≡ length ms + 1 = omega (arith, length-append ms (m ∷ [])) in
    record {
      numbered = numbered_more ms m 1 h.numbered (omega (arith, at));
      naming = rw size (naming-push (length ms) ms m h.naming turn.named);
      behind = behind-push [] ms m h.behind (none_named (length ms) m.number ms h.naming (omega (arith, at)));
      acknowledging = acknowledging-push [] ms m h.acknowledging turn.acknowledges;
    }

in_turn-behind : IsIdReadBack → (ledger : Ledger) (raw : Raw) (v : Verdict) → AreInTurn (order ledger) → verdict ledger raw ≡ v → AreInTurn (order ledger ++ messages_of v)
unfolding seq
in_turn-behind read_back ledger raw (Sequenced m) h is =
    let its = verdict-is_message ledger raw m is in
    in_turn-push (order ledger) m h (message-number ledger raw m its)
    (message_in_turn read_back ledger raw m (numbered-up_to 1 (length (order ledger)) (order ledger) h.numbered (omega arith)) its)
in_turn-behind read_back ledger raw (Nacked nack) h is = rw (append-nil (order ledger)) h
in_turn-behind read_back ledger raw Dropped h is = rw (append-nil (order ledger)) h
in_turn-behind read_back ledger raw Absorbed h is = rw (append-nil (order ledger)) h

begins_in_turn : AreInTurn (order [])
unfolding order
begins_in_turn = record { numbered = tt; naming = tt; behind = tt; acknowledging = tt }

order-in_turn : IsIdReadBack → (ledger : Ledger) → IsLegal ledger → AreInTurn (order ledger)
order-in_turn read_back =
    legal-induction (λ l. AreInTurn (order l)) begins_in_turn
    (λ ledger entry legal h is. rw (order-push ledger entry) (in_turn-behind read_back ledger entry.0 entry.1 h (sym is)))

pub order-answered_in_turn : IsIdReadBack → OrdersAreAnsweredInTurn
order-answered_in_turn read_back l legal =
    let turn = order-in_turn read_back l legal in
    record { rising = numbered-rising 1 (order l) turn.numbered; behind = turn.behind; acknowledging = turn.acknowledging }
