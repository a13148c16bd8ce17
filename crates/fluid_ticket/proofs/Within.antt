-- A state within the order is sound, and one that is sound lies within it.
use Rattle.std.proofs.Common.{◌≡◌, ℕ, ◌^◌, ◌-◌, ◌≤◌, ◌+◌, ◌++◌, ◌∷◌, [], List, length, min, Some, le-leb, refl, ap, sym, subst, ◌∙◌, arith}
use Rattle.std.specs.Prelude.{if◌then◌else◌}
use Rattle.std.specs.FinMap.{get}
use Rattle.fluid_types.specs.declared.entries.Raw.{Raw}
use Rattle.fluid_types.specs.declared.entries.Raw.TheVariants.{Join, Leave, Submit, Report}
use Rattle.fluid_types.specs.declared.verdicts.Verdict.{Verdict}
use Rattle.fluid_types.specs.declared.verdicts.Verdict.TheVariants as verdicts
use Rattle.fluid_types.specs.Ledger.{Ledger, messages_of, order, seq}
use Rattle.fluid_types.proofs.Ledgers.{seq-push}
use Rattle.fluid_rules.specs.Rules.{verdict, last_minimum, last_minimum_behind, IsLegal}
use Rattle.fluid_rules.specs.Scribe as scribe
use Rattle.fluid_rules.specs.declared.answers.Answer.{Answer}
use Rattle.fluid_rules.specs.declared.answers.Answer.TheVariants.{Dropped}
use Rattle.fluid_rules.proofs.Growth.{minimum-bounded}
use Rattle.fluid_rules.proofs.Heard.{last_minimum-push}
use Rattle.fluid_rules.proofs.Legal.{legal-induction, legal-push}
use Rattle.fluid_rules.proofs.Settled.{message-minimum}
use Rattle.fluid_rules.proofs.Verdicts.{verdict-is_message}
use Rattle.fluid_clients.specs.declared.table.Row.{Row}
use Rattle.fluid_clients.specs.Table.{Rows, rows_up_to}
use Rattle.fluid_clients.proofs.Down.{rows_up_to-low, rows_up_to-same}
use Rattle.fluid_ticket.specs.State.{State, minimum, after, verdict_in, minimum_up_to, within_order, IsSound, IsSoundWith}
use Rattle.fluid_ticket.specs.Ledger.{state_of, StandsFor, IsAnswered}
use Rattle.fluid_ticket.proofs.Sound.{start-kept}
use Rattle.fluid_ticket.proofs.Ledgers.{number_of, sequence-state_of, verdict-state_of, start-stands}
use Rattle.fluid_ticket.proofs.Commits.{sound_behind, stands_after}

within-sound : (s : State) → IsSound (within_order s)
within-sound s = record { few = omega arith; rows = λ id row there. rows_up_to-low (min s.sequence (2 ^ 53 - 1)) s.rows id row there }

-- a state that is another one within the order is sound
pub within-kept : (s t : State) (least : ℕ) → t ≡ within_order s → least ≡ minimum t → IsSoundWith t least
within-kept s t least is minimum_is = record { sound = subst IsSound (sym is) (within-sound s); is_minimum = minimum_is }

pub within_order-is : (sequence minimum : ℕ) (rows : Rows) (last low : ℕ) (down : Rows) → last ≡ min sequence (2 ^ 53 - 1) → low ≡ minimum_up_to last minimum → down ≡ rows_up_to last rows →
    ◌≡◌ {A = State} (record { sequence = last; last_minimum = low; rows = down }) (within_order (record { sequence = sequence; last_minimum = minimum; rows = rows }))
within_order-is sequence minimum rows last low down is low_is down_is =
    let rows_are : down ≡ rows_up_to (min sequence (2 ^ 53 - 1)) rows = down_is ∙ ap (λ n. rows_up_to n rows) is in
    let low_are : low ≡ minimum_up_to (min sequence (2 ^ 53 - 1)) minimum = low_is ∙ ap (λ n. minimum_up_to n minimum) is in
    λ i. record { sequence = is i; last_minimum = low_are i; rows = rows_are i }

pub sound-within : (s : State) → IsSound s → s.last_minimum ≤ s.sequence → within_order s ≡ s
sound-within s sound low =
    let last : min s.sequence (2 ^ 53 - 1) ≡ s.sequence = (let few = sound.few in omega arith) in
    let rows : rows_up_to (min s.sequence (2 ^ 53 - 1)) s.rows ≡ s.rows =
    ap (λ n. rows_up_to n s.rows) last ∙ rows_up_to-same s.sequence s.rows sound.rows in
    let least : minimum_up_to (min s.sequence (2 ^ 53 - 1)) s.last_minimum ≡ s.last_minimum =
    ap (λ n. minimum_up_to n s.last_minimum) last ∙ ap (λ b. if b then s.last_minimum else 0) (le-leb s.last_minimum s.sequence low) in
    λ i. record { sequence = last i; last_minimum = least i; rows = rows i }

-- ---- the state of a legal ledger is sound

answer_for : Ledger → Raw → Answer
answer_for l (Join id scopes detail moment) = Dropped
answer_for l (Leave id moment) = Dropped
answer_for l (Submit id submission moment) = Dropped
answer_for l (Report summary found moment) = scribe.answer (order l) summary found

answered_for : (l : Ledger) (raw : Raw) → IsAnswered l raw (answer_for l raw)
unfolding answer_for
answered_for l (Join id scopes detail moment) = tt
answered_for l (Leave id moment) = tt
answered_for l (Submit id submission moment) = tt
answered_for l (Report summary found moment) = refl

sound_push : (l : Ledger) (entry : Raw × Verdict) → IsLegal l → (seq l ≤ 2 ^ 53 - 1 → IsSound (state_of l)) → entry.1 ≡ verdict l entry.0 → seq (l ++ entry ∷ []) ≤ 2 ^ 53 - 1 → IsSound (state_of (l ++ entry ∷ []))
sound_push l entry legal sound is few =
    let more = seq-push l entry in
    let at = sequence-state_of l in
    let answered = answered_for l entry.0 in
    let by : entry.1 ≡ verdict_in (state_of l) (answer_for l entry.0) entry.0 = is ∙ sym (verdict-state_of l (answer_for l entry.0) entry.0 answered) in
    let behind = stands_after (state_of l) (after (state_of l) entry.0 entry.1) (answer_for l entry.0) entry.0 entry.1 l by refl (record { is = refl }) answered in
    subst IsSound behind.1.is
    (sound_behind (state_of l) (sound (omega (arith, few, more))) (answer_for l entry.0) entry.0 entry.1 by (omega (arith, few, more, at)))

pub sound-legal : (l : Ledger) → IsLegal l → seq l ≤ 2 ^ 53 - 1 → IsSound (state_of l)
sound-legal = legal-induction (λ l. seq l ≤ 2 ^ 53 - 1 → IsSound (state_of l)) (λ few. subst IsSound start-stands.is start-kept.sound) sound_push

-- the minimum of its last message isn't ahead of it
low_entry : (l : Ledger) (raw : Raw) (v : Verdict) → IsLegal l → last_minimum l ≤ seq l → v ≡ verdict l raw → last_minimum_behind (last_minimum l) v ≤ seq (l ++ (raw, v) ∷ [])
low_entry l raw (verdicts.Sequenced m) legal low is =
    omega (arith, minimum-bounded (l ++ (raw, verdicts.Sequenced m) ∷ []) (legal-push l (raw, verdicts.Sequenced m) legal is), message-minimum l raw m (verdict-is_message l raw m (sym is)))
low_entry l raw (verdicts.Nacked nack) legal low is = omega (arith, low, seq-push l (raw, verdicts.Nacked nack))
low_entry l raw verdicts.Dropped legal low is = omega (arith, low, seq-push l (raw, verdicts.Dropped))
low_entry l raw verdicts.Absorbed legal low is = omega (arith, low, seq-push l (raw, verdicts.Absorbed))

low_push : (l : Ledger) (entry : Raw × Verdict) → IsLegal l → last_minimum l ≤ seq l → entry.1 ≡ verdict l entry.0 → last_minimum (l ++ entry ∷ []) ≤ seq (l ++ entry ∷ [])
low_push l entry legal low is = subst (λ n. n ≤ seq (l ++ entry ∷ [])) (sym (last_minimum-push l entry)) (low_entry l entry.0 entry.1 legal low is)

low_first : last_minimum [] ≤ seq []
unfolding last_minimum order seq
low_first = omega arith

last_minimum-said : (l : Ledger) → (state_of l).last_minimum ≡ last_minimum l
unfolding state_of
last_minimum-said l = refl

pub low-legal : (l : Ledger) → IsLegal l → (state_of l).last_minimum ≤ (state_of l).sequence
low-legal l legal = omega (arith, legal-induction (λ l. last_minimum l ≤ seq l) low_first low_push l legal, last_minimum-said l, sequence-state_of l)

pub stands-within : (s t : State) (l : Ledger) → IsLegal l → s.sequence ≤ 2 ^ 53 - 1 → StandsFor s l → t ≡ within_order s → StandsFor t l
stands-within s t l legal few stands is =
    let number = number_of s l stands in
    let sound : IsSound s = subst IsSound (sym stands.is) (sound-legal l legal (omega (arith, few, number))) in
    let low : s.last_minimum ≤ s.sequence = subst (λ (t : State). t.last_minimum ≤ t.sequence) (sym stands.is) (low-legal l legal) in
    record { is = is ∙ sound-within s sound low ∙ stands.is }
