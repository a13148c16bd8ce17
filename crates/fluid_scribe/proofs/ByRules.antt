-- What is kept of an order answers as the rules do over the order.
use Rattle.std.proofs.Common.{◌≡◌, ℕ, suc, ◌+◌, ◌≤◌, arith, Bool, true, false, not, ◌&&◌, ◌==◌, if◌then◌else◌, List, [], ◌∷◌, length, Option, Some, None, option_map, All, refl, sym, ap, ap₂, ◌∙◌}
use Rattle.std.specs.Prelude.{slice_get}
use Rattle.std.specs.List.{list_any, last_or}
use Rattle.std.proofs.lemmas.List.Elements.{All-nil, All-cons, All-append}
use Rattle.fluid_types.specs.declared.messages.Message.{Message}
use Rattle.fluid_types.specs.Blobs.{blobs_of}
use Rattle.fluid_types.specs.Ledger.{order}
use Rattle.fluid_types.specs.Quorum.{quorum}
use Rattle.fluid_quorum.specs.declared.state.ScribeState.{ScribeState}
use Rattle.fluid_rules.specs.Rules.{first_case}
use Rattle.fluid_rules.specs.Scribe.{is_summarize, answers, reference_of, unanswered, unless_answered, acks, proposed_by, is_stale, is_old, protocol, version, judged, answer_to, answer_by, answer, pending}
use Rattle.fluid_rules.specs.declared.answers.Answer.TheVariants.{Dropped, Ack, Refused}
use Rattle.fluid_rules.specs.declared.answers.SummaryRule.TheVariants.{StaleHead, OldReference, Missing}
use Rattle.fluid_rules.specs.declared.answers.Proposed.{Proposed}
use Rattle.fluid_scribe.specs.State.{least_with, state_at, state_of, base_of, quorum_in}
use Rattle.fluid_scribe.specs.Jobs.{judged_in, answer_to_in, answer_by_in, answer_in, is_refused, job_of_in, job_in, job_of, job}
use Rattle.fluid_scribe.specs.Laws.{AnswersByRules, JobByRules}
use Rattle.fluid_scribe.proofs.Sequenced.{AreSequenced, last_of, legal-sequenced}
use Rattle.fluid_scribe.proofs.Grown.{least-below, base-is, quorum-kept}

-- ---- the references of those that wait

one_waits : (s b : Bool) (n : ℕ) (m : Message) → (s ≡ true → reference_of m ≤ n) → All (λ w. reference_of w ≤ n) (if s && not b then m ∷ [] else [])
one_waits true true n m within = All-nil _
one_waits true false n m within = All-cons (λ w. reference_of w ≤ n) m [] (within refl) (All-nil _)
one_waits false b n m within = All-nil _

-- they are no later than the last message
waits-within : (ms : List Message) (n low most : ℕ) → AreSequenced n low ms → n + length ms ≤ most → All (λ w. reference_of w ≤ most) (unanswered ms)
unfolding unanswered
waits-within [] n low most are le = All-nil _
waits-within (m ∷ ms) n low most are le =
    All-append (λ w. reference_of w ≤ most) (unless_answered ms m) (unanswered ms)
    (one_waits (is_summarize m.kind) (list_any (answers m.number) ms) most m (λ is. omega (arith, are.0.within is, le)))
    (waits-within ms (suc n) m.minimum most are.1 (omega (arith, le)))

-- ---- the pending one

first-of : (P : Message → Type 0) (ws : List Message) (m : Message) → All P ws → slice_get ws 0 ≡ Some m → P m
first-of P [] m all is = absurd (cc)
first-of P (w ∷ ws) m all is = let same : w ≡ m = cc in rw (sym same) (all 0 w (omega arith))

pub kept-pending : (ms : List Message) → (state_of ms).pending ≡ unanswered ms
unfolding state_of state_at
kept-pending ms = refl

pub kept-acks : (ms : List Message) → (state_of ms).acks ≡ acks ms
unfolding state_of state_at
kept-acks ms = refl

judged-same : (s : ScribeState) (ms : List Message) (reference : ℕ) (found : Bool) (p : Option Proposed) → s.acks ≡ acks ms → quorum_in s reference ≡ quorum ms reference →
    judged_in s reference found p ≡ judged ms reference found p
judged-same s ms reference found None known state = refl
judged-same s ms reference found (Some p) known state =
    ap₂ (λ given q.
    first_case
    ((is_stale (last_or None given) p, Refused StaleHead)
    ∷ (is_old (last_or None given) reference, Refused OldReference)
    ∷ (not found, Refused Missing)
    ∷ [])
    (Ack (version p.app (blobs_of q))))
    known state

module _ (ms : List Message) (are : AreSequenced 0 0 ms) where
  -- the quorum at its reference is that of the order
  pending-quorum : (m : Message) → pending ms ≡ Some m → quorum_in (state_of ms) (reference_of m) ≡ quorum ms (reference_of m)
  unfolding state_of
  pending-quorum m is =
      quorum-kept ms are (base_of ms) (reference_of m)
      (omega (arith, base-is ms, first-of (λ w. least_with (last_of 0 ms) (unanswered ms) ≤ reference_of w) (unanswered ms) m (least-below (unanswered ms) (last_of 0 ms)) is))
      (first-of (λ w. reference_of w ≤ length ms) (unanswered ms) m (waits-within ms 0 0 (length ms) are (omega arith)) is)

  pub pending-answer : (found : Bool) (m : Message) → pending ms ≡ Some m → answer_to_in (state_of ms) found m ≡ answer_to ms found m
  unfolding answer_to_in answer_to
  pending-answer found m is = judged-same (state_of ms) ms (reference_of m) found (proposed_by m) (kept-acks ms) (pending-quorum m is)

  answer-same : (summary : ℕ) (found : Bool) (o : Option Message) → pending ms ≡ o → answer_by_in (state_of ms) summary found o ≡ answer_by ms summary found o
  answer-same summary found None is = refl
  answer-same summary found (Some m) is = ap (λ a. if m.number == summary then a else Dropped) (pending-answer found m is)

  pub answer-kept : (summary : ℕ) (found : Bool) → answer_in (state_of ms) summary found ≡ answer ms summary found
  unfolding answer_in answer
  answer-kept summary found =
      ap (λ ws. answer_by_in (state_of ms) summary found (slice_get ws 0)) (kept-pending ms) ∙ answer-same summary found (pending ms) refl

  job-same : (o : Option Message) → pending ms ≡ o → option_map (job_of_in (state_of ms)) o ≡ option_map (job_of ms) o
  unfolding job_of_in job_of
  job-same None is = refl
  job-same (Some m) is =
      ap₂ (λ state (anyway : Bool). Some (record {
        summary = m.number;
        app = option_map (λ proposed. proposed.app) (proposed_by m);
        protocol = protocol (blobs_of state);
        reference = reference_of m;
        needs_storage = not anyway;
      }))
      (pending-quorum m is)
      (ap₂ (λ one other. is_refused one && is_refused other) (pending-answer true m is) (pending-answer false m is))

  pub job-kept : job_in (state_of ms) ≡ job ms
  unfolding job_in
  job-kept = ap (λ ws. option_map (job_of_in (state_of ms)) (slice_get ws 0)) (kept-pending ms) ∙ job-same (pending ms) refl

pub answers-by_rules : AnswersByRules
answers-by_rules l legal summary found = answer-kept (order l) (legal-sequenced l legal) summary found

pub job-by_rules : JobByRules
job-by_rules l legal = job-kept (order l) (legal-sequenced l legal)
