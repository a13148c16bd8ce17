-- The answer that an entry gets is the one that was handed in, where that is the scribe's over the order of a legal ledger.
use Rattle.std.proofs.Common.{◌≡◌, ℕ, ◌+◌, ◌≤◌, Bool, true, false, cond, List, [], ◌∷◌, ◌++◌, append-nil, length, Result, IfOk, refl, sym, ap, subst, ◌∙◌, ◌⊎◌, inl, inr, All, arith}
use Rattle.std.specs.Prelude.{nat_le}
use Rattle.std.proofs.lemmas.Bool.{le-leb}
use Rattle.std.proofs.lemmas.List.Elements.{All-nil, All-cons, All-append}
use Rattle.fluid_json.specs.declared.memory.NoMemory.{NoMemory}
use Rattle.fluid_types.specs.declared.entries.Raw.{Raw}
use Rattle.fluid_types.specs.declared.entries.Raw.TheVariants.{Join, Leave, Submit, Report}
use Rattle.fluid_types.specs.declared.messages.Message.{Message}
use Rattle.fluid_types.specs.declared.verdicts.Verdict.{Verdict}
use Rattle.fluid_types.specs.declared.verdicts.Verdict.TheVariants.{Sequenced, Nacked, Dropped, Absorbed}
use Rattle.fluid_types.specs.Ledger.{Ledger, messages_of, order, seq}
use Rattle.fluid_types.proofs.Ledgers.{order-push, seq-push}
use Rattle.fluid_rules.specs.Rules.{verdict, IsLegal}
use Rattle.fluid_rules.specs.Scribe as scribe
use Rattle.fluid_rules.specs.declared.answers.Answer.{Answer}
use Rattle.fluid_rules.specs.declared.answers.Answer.TheVariants.{Dropped as unanswered}
use Rattle.fluid_rules.proofs.Answered.{answer-up_to}
use Rattle.fluid_rules.proofs.Legal.{legal-induction}
use Rattle.fluid_rules.proofs.Verdicts.{verdict-is_message, message-number}
use Rattle.fluid_ticket.specs.State.{State, Prepared, prepared, heard}
use Rattle.fluid_ticket.specs.Ledger.{StandsFor, IsAnswered}
use Rattle.fluid_ticket.proofs.Ledgers.{number_of, verdict_of_ready}

-- ---- the numbers of a legal ledger's order

up_more : (n k : ℕ) (ms : List Message) → n ≤ k → All (λ m. m.number ≤ n) ms → All (λ m. m.number ≤ k) ms
up_more n k ms le h = λ i d lt. let low = h i d lt in omega (arith, low, le)

up_behind : (l : Ledger) (raw : Raw) (v : Verdict) → All (λ m. m.number ≤ seq l) (order l) → verdict l raw ≡ v →
    All (λ m. m.number ≤ seq l + length (messages_of v)) (order l ++ messages_of v)
up_behind l raw (Sequenced m) h is =
    let next = message-number l raw m (verdict-is_message l raw m is) in
    All-append (λ m. m.number ≤ seq l + 1) (order l) (m ∷ []) (up_more (seq l) (seq l + 1) (order l) (omega arith) h)
    (All-cons (λ m. m.number ≤ seq l + 1) m [] (omega (arith, next)) (All-nil (λ m. m.number ≤ seq l + 1)))
up_behind l raw (Nacked nack) h is = rw (append-nil (order l)) (up_more (seq l) (seq l + 0) (order l) (omega arith) h)
up_behind l raw Dropped h is = rw (append-nil (order l)) (up_more (seq l) (seq l + 0) (order l) (omega arith) h)
up_behind l raw Absorbed h is = rw (append-nil (order l)) (up_more (seq l) (seq l + 0) (order l) (omega arith) h)

begins_up : All (λ m. m.number ≤ seq []) (order [])
unfolding order
begins_up = All-nil (λ m. m.number ≤ seq [])

legal-up_to : (l : Ledger) → IsLegal l → All (λ m. m.number ≤ seq l) (order l)
legal-up_to =
    legal-induction (λ l. All (λ m. m.number ≤ seq l) (order l)) begins_up
    (λ l entry legal h is. rw (order-push l entry, seq-push l entry) (up_behind l entry.0 entry.1 h (sym is)))

-- ---- what is heard

heard_within : (s : State) (summary : ℕ) (found : Bool) (moment : ℕ) (answer : Answer) → (answer ≡ unanswered) ⊎ (summary ≤ s.sequence) →
    heard s (Report summary found moment) answer ≡ answer
heard_within s summary found moment answer h =
    elim h [
      | inl dropped ↦ dropped_either (nat_le summary s.sequence) answer dropped
      | inr low ↦ ap (λ b. cond b answer unanswered) (le-leb summary s.sequence low)
    ]
  where
    dropped_either : (b : Bool) (a : Answer) → a ≡ unanswered → cond b a unanswered ≡ a
    dropped_either true a is = refl
    dropped_either false a is = sym is

-- a report that isn't dropped is on a message of the order
pub heard_on_order : (s : State) (messages : List Message) (summary : ℕ) (found : Bool) (moment : ℕ) → All (λ m. m.number ≤ s.sequence) messages →
    heard s (Report summary found moment) (scribe.answer messages summary found) ≡ scribe.answer messages summary found
heard_on_order s messages summary found moment up =
    heard_within s summary found moment (scribe.answer messages summary found) (answer-up_to s.sequence messages summary found up)

heard_legal : (s : State) (l : Ledger) (raw : Raw) (answer : Answer) → IsLegal l → StandsFor s l → IsAnswered l raw answer → IsAnswered l raw (heard s raw answer)
heard_legal s l (Join id scopes detail moment) answer legal stands is = tt
heard_legal s l (Leave id moment) answer legal stands is = tt
heard_legal s l (Submit id submission moment) answer legal stands is = tt
heard_legal s l (Report summary found moment) answer legal stands is =
    ap (heard s (Report summary found moment)) is
    ∙ heard_on_order s (order l) summary found moment (rw (number_of s l stands) (legal-up_to l legal))

pub verdict_of_heard : (result : Result Prepared NoMemory) (s t : State) (answer : Answer) (raw other : Raw) (l : Ledger) →
    IfOk result (λ ready. ready ≡ prepared s (heard s raw answer) raw) → s ≡ t → other ≡ raw → StandsFor t l → IsAnswered l other (heard t other answer) →
    IfOk result (λ ready. ready.verdict ≡ verdict l other)
verdict_of_heard result s t answer raw other l is same entry stands answered =
    verdict_of_ready result s t (heard s raw answer) raw other l is same entry stands
    (subst (λ u. IsAnswered l other (heard u raw answer)) (sym same) (subst (λ r. IsAnswered l other (heard t r answer)) entry answered))

pub verdict_of_legal : (result : Result Prepared NoMemory) (s t : State) (answer : Answer) (raw other : Raw) (l : Ledger) →
    IfOk result (λ ready. ready ≡ prepared s (heard s raw answer) raw) → s ≡ t → other ≡ raw → IsLegal l → StandsFor t l → IsAnswered l other answer →
    IfOk result (λ ready. ready.verdict ≡ verdict l other)
verdict_of_legal result s t answer raw other l is same entry legal stands answered =
    verdict_of_heard result s t answer raw other l is same entry stands (heard_legal t l other answer legal stands answered)
