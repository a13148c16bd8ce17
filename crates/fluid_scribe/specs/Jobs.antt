-- What is answered to a summary and what is to be done about it, by what a scribe keeps.
use Rattle.std.specs.Prelude.{ℕ, ◌==◌, Bool, true, false, not, ◌&&◌, List, [], ◌∷◌, Option, Some, None, is_none, option_map, slice_get, if◌then◌else◌}
use Rattle.std.specs.List.{last_or}
use Rattle.fluid_types.specs.Blobs.{blobs, blobs_of}
use Rattle.fluid_types.specs.declared.messages.Message.{Message}
use Rattle.fluid_tree.specs.declared.id.SummaryRef.{SummaryRef}
use Rattle.fluid_quorum.specs.declared.state.ScribeState.{ScribeState}
use Rattle.fluid_rules.specs.Rules.{first_case}
use Rattle.fluid_rules.specs.Scribe.{proposed_by, reference_of, pending, protocol, version, answer_to, is_stale, is_old}
use Rattle.fluid_rules.specs.declared.answers.Answer.{Answer}
use Rattle.fluid_rules.specs.declared.answers.Answer.TheVariants.{Dropped, Ack, Refused}
use Rattle.fluid_rules.specs.declared.answers.Proposed.{Proposed}
use Rattle.fluid_rules.specs.declared.answers.SummaryRule.{SummaryRule}
use Rattle.fluid_rules.specs.declared.answers.SummaryRule.TheVariants.{Malformed, StaleHead, OldReference, Missing}
use Rattle.fluid_scribe.specs.State.{quorum_in}
use Rattle.fluid_scribe.specs.declared.job.Job.{Job}

-- ---- the answer

abbrev pub last_ack_in : ScribeState → Option SummaryRef
last_ack_in s = last_or None s.acks

-- the first case that fits; where none does, it is acknowledged with the order's state at its reference
abbrev pub judged_in : ScribeState → ℕ → Bool → Option Proposed → Answer
judged_in s reference found None = Refused Malformed
judged_in s reference found (Some proposed) =
    first_case
    ((is_stale (last_ack_in s) proposed, Refused StaleHead)
    ∷ (is_old (last_ack_in s) reference, Refused OldReference)
    ∷ (not found, Refused Missing)
    ∷ [])
    (Ack (version proposed.app (blobs_of (quorum_in s reference))))

unfoldable pub answer_to_in : ScribeState → Bool → Message → Answer
answer_to_in s found m = judged_in s (reference_of m) found (proposed_by m)

abbrev pub pending_in : ScribeState → Option Message
pending_in s = slice_get s.pending 0

-- a report on another number than that of the pending summarize is dropped
abbrev pub answer_by_in : ScribeState → ℕ → Bool → Option Message → Answer
answer_by_in s summary found None = Dropped
answer_by_in s summary found (Some m) = if m.number == summary then answer_to_in s found m else Dropped

unfoldable pub answer_in : ScribeState → ℕ → Bool → Answer
answer_in s summary found = answer_by_in s summary found (pending_in s)

-- ---- the job

abbrev pub is_refused : Answer → Bool
is_refused Dropped = false
is_refused (Ack handle) = false
is_refused (Refused rule) = true

-- the answer to a summarize is a summaryNack whatever is found
abbrev pub is_refused_anyway : ScribeState → Message → Bool
is_refused_anyway s m = is_refused (answer_to_in s true m) && is_refused (answer_to_in s false m)

-- the job of a summarize
unfoldable pub job_of_in : ScribeState → Message → Job
job_of_in s m = record {
  summary = m.number;
  app = option_map (λ proposed. proposed.app) (proposed_by m);
  protocol = protocol (blobs_of (quorum_in s (reference_of m)));
  reference = reference_of m;
  needs_storage = not (is_refused_anyway s m);
}

-- that of the pending one
unfoldable pub job_in : ScribeState → Option Job
job_in s = option_map (job_of_in s) (pending_in s)

-- ---- of the messages of an order

-- its pending summarize's job, by the rules' answers
abbrev pub is_refused_anyway_by : List Message → Message → Bool
is_refused_anyway_by order m = is_refused (answer_to order true m) && is_refused (answer_to order false m)

unfoldable pub job_of : List Message → Message → Job
job_of order m = record {
  summary = m.number;
  app = option_map (λ proposed. proposed.app) (proposed_by m);
  protocol = protocol (blobs order (reference_of m));
  reference = reference_of m;
  needs_storage = not (is_refused_anyway_by order m);
}

abbrev pub job : List Message → Option Job
job order = option_map (job_of order) (pending order)

-- ---- for private clauses: the rule that refuses a summary behind this acknowledgement, whatever is found
abbrev pub refused_by : Option SummaryRef → ℕ → Proposed → Option SummaryRule
refused_by last reference proposed = first_case ((is_stale last proposed, Some StaleHead) ∷ (is_old last reference, Some OldReference) ∷ []) None

abbrev pub may_be_acknowledged : Option SummaryRef → ℕ → Option Proposed → Bool
may_be_acknowledged last reference None = false
may_be_acknowledged last reference (Some proposed) = is_none (refused_by last reference proposed)
