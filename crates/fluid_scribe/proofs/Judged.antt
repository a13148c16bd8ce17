-- The answer to a summarize, case by case.
use Rattle.std.proofs.Common.{◌≡◌, ℕ, Bool, true, false, not, ◌&&◌, List, [], ◌∷◌, Option, Some, None, refl, sym, ◌∙◌, ap}
use Rattle.std.specs.Prelude.{is_none, option_map}
use Rattle.fluid_tree.specs.Summary.{Summary}
use Rattle.fluid_tree.specs.declared.id.SummaryRef.{SummaryRef}
use Rattle.fluid_types.specs.Quorum.{Quorum}
use Rattle.fluid_types.specs.Blobs.{blobs_of}
use Rattle.fluid_quorum.specs.declared.state.ScribeState.{ScribeState}
use Rattle.fluid_types.specs.declared.messages.Message.{Message}
use Rattle.fluid_rules.specs.Rules.{first_case}
use Rattle.fluid_rules.specs.Scribe.{proposed_by, reference_of, is_stale, is_old, protocol, version}
use Rattle.fluid_rules.specs.declared.answers.Answer.{Answer}
use Rattle.fluid_rules.specs.declared.answers.Answer.TheVariants.{Ack, Refused}
use Rattle.fluid_rules.specs.declared.answers.Proposed.{Proposed}
use Rattle.fluid_rules.specs.declared.answers.SummaryRule.{SummaryRule}
use Rattle.fluid_rules.specs.declared.answers.SummaryRule.TheVariants.{Malformed, StaleHead, OldReference, Missing}
use Rattle.fluid_scribe.specs.State.{quorum_in, brought}
use Rattle.fluid_scribe.specs.Tails.{kept, state_with}
use Rattle.fluid_scribe.specs.declared.tail.Tail.{Tail}
use Rattle.fluid_scribe.specs.Jobs.{last_ack_in, answer_to_in, is_refused, is_refused_anyway, job_of_in, refused_by, may_be_acknowledged}

abbrev Chain : Bool → Bool → Bool → Answer → Answer
Chain stale old found ack = first_case ((stale, Refused StaleHead) ∷ (old, Refused OldReference) ∷ (not found, Refused Missing) ∷ []) ack

abbrev Rule : Bool → Bool → Option SummaryRule
Rule stale old = first_case ((stale, Some StaleHead) ∷ (old, Some OldReference) ∷ []) None

refused_chain : (stale old found : Bool) (ack : Answer) (rule : SummaryRule) → Rule stale old ≡ Some rule → Refused rule ≡ Chain stale old found ack
refused_chain true old found ack rule h = cc
refused_chain false true found ack rule h = cc
refused_chain false false found ack rule h = absurd (cc)

missing_chain : (stale old : Bool) (ack : Answer) → Rule stale old ≡ None → Refused Missing ≡ Chain stale old false ack
missing_chain true old ack h = absurd (cc)
missing_chain false true ack h = absurd (cc)
missing_chain false false ack h = refl

acked_chain : (stale old : Bool) (ack : Answer) → Rule stale old ≡ None → ack ≡ Chain stale old true ack
acked_chain true old ack h = absurd (cc)
acked_chain false true ack h = absurd (cc)
acked_chain false false ack h = refl

pub malformed : (s : ScribeState) (found : Bool) (m : Message) → proposed_by m ≡ None → Refused Malformed ≡ answer_to_in s found m
unfolding answer_to_in
malformed s found m h = rw h refl

pub ruled : (s : ScribeState) (found : Bool) (m : Message) (p : Proposed) (rule : SummaryRule) → proposed_by m ≡ Some p →
    refused_by (last_ack_in s) (reference_of m) p ≡ Some rule → Refused rule ≡ answer_to_in s found m
unfolding answer_to_in
ruled s found m p rule h is =
    rw h (refused_chain (is_stale (last_ack_in s) p) (is_old (last_ack_in s) (reference_of m)) found (Ack (version p.app (blobs_of (quorum_in s (reference_of m))))) rule is)

pub missing : (s : ScribeState) (found : Bool) (m : Message) (p : Proposed) → proposed_by m ≡ Some p →
    refused_by (last_ack_in s) (reference_of m) p ≡ None → found ≡ false → Refused Missing ≡ answer_to_in s found m
unfolding answer_to_in
missing s found m p h is not_found =
    rw (h, not_found) (missing_chain (is_stale (last_ack_in s) p) (is_old (last_ack_in s) (reference_of m)) (Ack (version p.app (blobs_of (quorum_in s (reference_of m))))) is)

pub acked : (s : ScribeState) (found : Bool) (m : Message) (p : Proposed) → proposed_by m ≡ Some p →
    refused_by (last_ack_in s) (reference_of m) p ≡ None → found ≡ true → Ack (version p.app (blobs_of (quorum_in s (reference_of m)))) ≡ answer_to_in s found m
unfolding answer_to_in
acked s found m p h is it_is_found =
    rw (h, it_is_found) (acked_chain (is_stale (last_ack_in s) p) (is_old (last_ack_in s) (reference_of m)) (Ack (version p.app (blobs_of (quorum_in s (reference_of m))))) is)

-- whether the answer depends on what is found

open_chain : (stale old : Bool) (ack : Answer) → is_refused ack ≡ false →
    is_none (Rule stale old) ≡ not (is_refused (Chain stale old true ack) && is_refused (Chain stale old false ack))
open_chain true old ack h = refl
open_chain false true ack h = refl
open_chain false false ack h = rw h refl

pub may_be : (s : ScribeState) (m : Message) (proposed : Option Proposed) → proposed_by m ≡ proposed →
    may_be_acknowledged (last_ack_in s) (reference_of m) proposed ≡ not (is_refused_anyway s m)
unfolding answer_to_in
may_be s m None h = rw h refl
may_be s m (Some p) h =
    rw h (open_chain (is_stale (last_ack_in s) p) (is_old (last_ack_in s) (reference_of m)) (Ack (version p.app (blobs_of (quorum_in s (reference_of m))))) refl)

-- ---- what was computed

-- the rule of a summary behind the last acknowledgement
pub at_last : (last other : Option SummaryRef) (reference given : ℕ) (p : Proposed) (rule : Option SummaryRule) → last ≡ other → reference ≡ given →
    rule ≡ refused_by last reference p → refused_by other given p ≡ rule
at_last last other reference given p rule is at h = sym (h ∙ rw (is, at) refl)

-- the job of a summarize
pub job_is : (s : ScribeState) (m : Message) (last : Option SummaryRef) (proposed : Option Proposed) (app : Option (List ℕ)) (state : Summary) (reference : ℕ)
    (needs : Bool) → last ≡ last_ack_in s → proposed ≡ proposed_by m → app ≡ option_map (λ p. p.app) proposed → reference ≡ reference_of m →
    state ≡ protocol (blobs_of (quorum_in s reference)) → needs ≡ may_be_acknowledged last reference proposed →
    record { summary = m.number; app = app; protocol = state; reference = reference; needs_storage = needs } ≡ job_of_in s m
unfolding job_of_in
job_is s m last proposed app state reference needs last_is proposed_is app_is reference_is state_is needs_is =
    rw (app_is, state_is, needs_is, last_is, reference_is, proposed_is)
    (ap (λ b. record {
      summary = m.number;
      app = option_map (λ p. p.app) (proposed_by m);
      protocol = protocol (blobs_of (quorum_in s (reference_of m)));
      reference = reference_of m;
      needs_storage = b;
    }) (may_be s m (proposed_by m) refl))

-- the quorum at the reference of a summarize, as it was found
pub acked-at : (s : ScribeState) (found : Bool) (m : Message) (p : Proposed) (q : Quorum) (handle : List ℕ) (reference : ℕ) → proposed_by m ≡ Some p →
    refused_by (last_ack_in s) (reference_of m) p ≡ None → found ≡ true → reference ≡ reference_of m → q ≡ quorum_in s reference → handle ≡ version p.app (blobs_of q) →
    Ack handle ≡ answer_to_in s found m
acked-at s found m p q handle reference h is it_is_found at quorum_is handle_is =
    ap (λ given. Ack given) (handle_is ∙ ap (λ given. version p.app (blobs_of given)) (quorum_is ∙ ap (quorum_in s) at)) ∙ acked s found m p h is it_is_found

pub quorum-at : (tail : Tail) (waiting : List Message) (known : List SummaryRef) (number : ℕ) →
    (brought number tail.base tail.behind.items tail.minima.items).quorum ≡ quorum_in (state_with (kept tail) waiting known) number
unfolding quorum_in
quorum-at tail waiting known number = refl
