-- The job of a core is on one of its messages.
use Rattle.std.proofs.Common.{◌≡◌, ℕ, suc, ◌≤◌, Bool, true, false, if◌then◌else◌, List, [], ◌∷◌, ◌++◌, length, Option, Some, None, option_map, slice_get, refl, ap, ◌∙◌, arith, All}
use Rattle.std.specs.Prelude.{IfSome}
use Rattle.std.proofs.lemmas.Bool.{le-leb}
use Rattle.fluid_types.specs.declared.messages.Message.{Message}
use Rattle.fluid_types.specs.Ledger.{Ledger, order, seq}
use Rattle.fluid_rules.specs.Scribe.{unanswered, pending, reference_of}
use Rattle.fluid_scribe.specs.Jobs.{job_of as job_for, job_in, job}
use Rattle.fluid_scribe.proofs.Sequenced.{legal-sequenced}
use Rattle.fluid_scribe.proofs.Within.{Each, Waits, waits_in}
use Rattle.fluid_scribe.proofs.ByRules.{job-by_rules}
use Rattle.fluid_core.specs.Entering.{State, on_order, job_of, StandsFor}
use Rattle.fluid_core.proofs.Entered.{stands-scribe, stands-sequencer}
use Rattle.fluid_ticket.proofs.Ledgers.{number_of}

first_of : (P : Message → Type 0) (ms : List Message) → Each P ms → IfSome (slice_get ms 0) P
first_of P [] each = tt
first_of P (m ∷ ms) each = each.0

-- a job on a message of the order that doesn't refer ahead of itself is on the order
on-order : (ms : List Message) (last : ℕ) (o : Option Message) → IfSome o (Waits last) → on_order last (option_map (job_for ms) o) ≡ option_map (job_for ms) o
unfolding job_for
on-order ms last None waits = refl
on-order ms last (Some m) waits = rw (le-leb 1 m.number waits.0.0.0, le-leb m.number last waits.0.0.1, le-leb (reference_of m) m.number waits.1) refl

pub stands-job : (s : State) (l : Ledger) → StandsFor s l → job_of s ≡ job (order l)
unfolding job_of seq
stands-job s l stands =
    ap (λ n. on_order n (job_in s.scribe)) (number_of s.sequencer l (stands-sequencer s l stands))
    ∙ ap (on_order (seq l)) (ap job_in (stands-scribe s l stands) ∙ job-by_rules l stands.legal)
    ∙ on-order (order l) (length (order l)) (pending (order l)) (first_of (Waits (length (order l))) (unanswered (order l)) (waits_in (length (order l)) (order l) (legal-sequenced l stands.legal) (omega arith)))
