-- How a legal ledger grows: bounds on references, the minimum, and nacks.
use Rattle.std.proofs.Common.{◌≡◌, ℕ, ◌+◌, ◌≤◌, Bool, true, false, List, [], ◌∷◌, ◌++◌, Option, Some, None, refl, sym, ◌∙◌, ap, ◌⊎◌, inl, inr, arith, bytes_eq, if◌then◌else◌}
use Rattle.std.specs.Option.{option_map}
use Rattle.fluid_types.specs.declared.entries.Raw.{Raw}
use Rattle.fluid_types.specs.declared.entries.Raw.TheVariants.{Join, Leave, Submit, Report}
use Rattle.fluid_types.specs.declared.entries.Submission.{Submission}
use Rattle.fluid_types.specs.declared.nacks.Nack.{Nack}
use Rattle.fluid_types.specs.declared.messages.Message.{Message}
use Rattle.fluid_types.specs.declared.verdicts.Verdict.{Verdict}
use Rattle.fluid_types.specs.declared.verdicts.Verdict.TheVariants.{Sequenced, Nacked, Dropped, Absorbed}
use Rattle.fluid_types.specs.Ledger.{Ledger, seq}
use Rattle.fluid_types.proofs.Ledgers.{seq-push}
use Rattle.fluid_rules.specs.Past as past
use Rattle.fluid_rules.specs.Past.{Entry, Client, IsLeast, client_behind, client_taking, client_submitting, client_heard, count_of, read_as, is_below, is_sequenced}
use Rattle.fluid_rules.specs.Rules.{past_of, is_joined, client, minimum, message, sequenced, verdict, IsLegal}
use Rattle.fluid_rules.proofs.Joined.{some_same}
use Rattle.fluid_rules.proofs.Legal.{legal-induction, legal-growth, legal-last}
use Rattle.fluid_rules.proofs.Minimum.{minimum-is_least}
use Rattle.fluid_rules.proofs.Pushed.{client-push}
use Rattle.fluid_rules.proofs.Verdicts.{not_nacked, WasNacked, sequenced-was, absorbed-was, nacked-was, reference-within, read-within}

-- ---- where a client's reference comes from

-- the reference that an entry gives to its own client, behind this last sequence number
abbrev brought : ℕ → Entry → Option ℕ
brought sequence (Join id scopes detail moment, verdict) = None
brought sequence (Leave id moment, verdict) = None
brought sequence (Submit id submission moment, Sequenced m) = Some (count_of m.reference)
brought sequence (Submit id submission moment, Nacked n) = Some (count_of n.minimum)
brought sequence (Submit id submission moment, Dropped) = None
brought sequence (Submit id submission moment, Absorbed) = Some (read_as sequence submission.reference)
brought sequence (Report summary found moment, verdict) = None

-- the reference of a client behind an entry: the one before, the minimum before, or the one that the entry gives
abbrev ComesFrom : Entry → ℕ → ℕ → Option Client → Client → Type 0
ComesFrom entry sequence minimum before after =
    ((client : Client) × ((before ≡ Some client) × (after.reference ≡ client.reference)))
    ⊎ ((after.reference ≡ minimum) ⊎ (brought sequence entry ≡ Some after.reference))

module _ (entry : Entry) (sequence minimum : ℕ) where
  kept : (before : Option Client) (after : Client) → before ≡ Some after → ComesFrom entry sequence minimum before after
  kept before after h = inl (after, (h, refl))

  kept_heard : (moment : ℕ) (before : Option Client) (after : Client) → option_map (client_heard moment) before ≡ Some after → ComesFrom entry sequence minimum before after
  kept_heard moment None after h = absurd (cc)
  kept_heard moment (Some before) after h = inl (before, (refl, sym (ap (λ c. c.reference) (some_same _ after h))))

  taking : (number reference moment : ℕ) (before : Client) (nacked : Bool) (after : Client) → before.nacked ≡ nacked → brought sequence entry ≡ Some reference →
      client_heard moment (client_taking number reference before) ≡ after → ComesFrom entry sequence minimum (Some before) after
  taking number reference moment before true after h is at =
      inl (before, (refl, sym (ap (λ c. c.reference) at) ∙ rw h refl))
  taking number reference moment before false after h is at =
      inr (inr (is ∙ ap Some (sym (rw h refl) ∙ ap (λ c. c.reference) at)))

  joined_from : (same taken : Bool) (moment : ℕ) (fresh : Client) (before : Option Client) (after : Client) → fresh.reference ≡ minimum →
      (if same then (if taken then Some fresh else option_map (client_heard moment) before) else before) ≡ Some after → ComesFrom entry sequence minimum before after
  joined_from true true moment fresh before after at h = inr (inl (sym (ap (λ c. c.reference) (some_same fresh after h)) ∙ at))
  joined_from true false moment fresh before after at h = kept_heard moment before after h
  joined_from false taken moment fresh before after at h = kept before after h

  left_from : (same taken : Bool) (moment : ℕ) (before : Option Client) (after : Client) →
      (if same then (if taken then None else option_map (client_heard moment) before) else before) ≡ Some after → ComesFrom entry sequence minimum before after
  left_from true true moment before after h = absurd (cc)
  left_from true false moment before after h = kept_heard moment before after h
  left_from false taken moment before after h = kept before after h

refused : (id : List ℕ) (submission : Submission) (moment : ℕ) (n : Nack) (sequence minimum : ℕ) (before : Client) (below : Bool) (after : Client) →
    is_below n.rule ≡ below → client_heard moment (client_submitting sequence submission (Nacked n) before) ≡ after →
    ComesFrom (Submit id submission moment, Nacked n) sequence minimum (Some before) after
refused id submission moment n sequence minimum before true after h at =
    inr (inr (ap Some (ap (λ c. c.reference) (rw h at at))))
refused id submission moment n sequence minimum before false after h at =
    inl (before, (refl, sym (ap (λ c. c.reference) (rw h at at))))

submit_from : (same : Bool) (id : List ℕ) (submission : Submission) (moment : ℕ) (verdict : Verdict) (sequence minimum : ℕ) (before : Option Client) (after : Client) →
    (if same then option_map (λ client. client_heard moment (client_submitting sequence submission verdict client)) before else before) ≡ Some after →
    ComesFrom (Submit id submission moment, verdict) sequence minimum before after
submit_from false id submission moment verdict sequence minimum before after h = kept (Submit id submission moment, verdict) sequence minimum before after h
submit_from true id submission moment verdict sequence minimum None after h = absurd (cc)
submit_from true id submission moment (Sequenced m) sequence minimum (Some before) after h =
    taking (Submit id submission moment, Sequenced m) sequence minimum submission.client_number (count_of m.reference) moment before before.nacked after refl refl (some_same _ after h)
submit_from true id submission moment (Nacked n) sequence minimum (Some before) after h =
    refused id submission moment n sequence minimum before (is_below n.rule) after refl (some_same _ after h)
submit_from true id submission moment Dropped sequence minimum (Some before) after h =
    kept_heard (Submit id submission moment, Dropped) sequence minimum moment (Some before) after h
submit_from true id submission moment Absorbed sequence minimum (Some before) after h =
    taking (Submit id submission moment, Absorbed) sequence minimum submission.client_number (read_as sequence submission.reference) moment before before.nacked after refl refl (some_same _ after h)

comes_from : (entry : Entry) (sequence minimum : ℕ) (c : List ℕ) (before : Option Client) (after : Client) →
    client_behind entry sequence minimum c before ≡ Some after → ComesFrom entry sequence minimum before after
comes_from (Join id scopes detail moment, verdict) sequence minimum c before after h =
    joined_from (Join id scopes detail moment, verdict) sequence minimum (bytes_eq id c) (is_sequenced verdict) moment _ before after refl h
comes_from (Leave id moment, verdict) sequence minimum c before after h =
    left_from (Leave id moment, verdict) sequence minimum (bytes_eq id c) (is_sequenced verdict) moment before after h
comes_from (Submit id submission moment, verdict) sequence minimum c before after h = submit_from (bytes_eq id c) id submission moment verdict sequence minimum before after h
comes_from (Report summary found moment, verdict) sequence minimum c before after h = kept (Report summary found moment, verdict) sequence minimum before after h

-- ---- the reference that a verdict of the rules gives

seq_after : (ledger : Ledger) (entry : Entry) → seq ledger ≤ seq (ledger ++ entry ∷ [])
seq_after ledger entry = omega (arith, seq-push ledger entry)

brought_within : (ledger : Ledger) (entry : Entry) (k : ℕ) → minimum ledger ≤ seq ledger → entry.1 ≡ verdict ledger entry.0 → brought (seq ledger) entry ≡ Some k →
    (minimum ledger ≤ k) × (k ≤ seq (ledger ++ entry ∷ []))
unfolding verdict
brought_within ledger (Join id scopes detail moment, v) k h is at = absurd (cc)
brought_within ledger (Leave id moment, v) k h is at = absurd (cc)
brought_within ledger (Submit id submission moment, Sequenced m) k h is at =
    let within = reference-within ledger id submission moment m h (sequenced-was ledger id submission moment m is) in
    let named : count_of m.reference ≡ k = some_same (count_of m.reference) k at in
    let grows : seq (ledger ++ (Submit id submission moment, Sequenced m) ∷ []) ≡ seq ledger + 1 =
    seq-push ledger (Submit id submission moment, Sequenced m) in
    (omega (arith, within.0), omega (arith, within.1))
brought_within ledger (Submit id submission moment, Nacked n) k h is at =
    let was = nacked-was ledger id submission moment n is in
    let named : minimum ledger ≡ k = ap count_of (sym was.minimum_is) ∙ some_same (count_of n.minimum) k at in
    let grows : seq ledger ≤ seq (ledger ++ (Submit id submission moment, Nacked n) ∷ []) = seq_after ledger (Submit id submission moment, Nacked n) in
    (omega arith, omega arith)
brought_within ledger (Submit id submission moment, Dropped) k h is at = absurd (cc)
brought_within ledger (Submit id submission moment, Absorbed) k h is at =
    let within = read-within ledger id submission h (absorbed-was ledger id submission moment is) in
    let named : read_as (seq ledger) submission.reference ≡ k = some_same (read_as (seq ledger) submission.reference) k at in
    let grows : seq ledger ≤ seq (ledger ++ (Submit id submission moment, Absorbed) ∷ []) = seq_after ledger (Submit id submission moment, Absorbed) in
    (omega (arith, within.0), omega (arith, within.1))
brought_within ledger (Report summary found moment, v) k h is at = absurd (cc)

-- ---- references and the minimum are at most the last sequence number

abbrev Bounded : Ledger → Type 0
Bounded ledger = (c : List ℕ) (said : Client) → client ledger c ≡ Some said → said.reference ≤ seq ledger

bounded_minimum : (ledger : Ledger) → Bounded ledger → minimum ledger ≤ seq ledger
bounded_minimum ledger bounded =
    elim (minimum-is_least ledger).reached [
      | inl found ↦ let bound : found.1.0.reference ≤ seq ledger = bounded found.0 found.1.0 found.1.1.0 in omega (arith, found.1.1.1)
      | inr nobody ↦ omega (arith, nobody.1)
    ]

bounded_step : (ledger : Ledger) (entry : Entry) → IsLegal ledger → Bounded ledger → entry.1 ≡ verdict ledger entry.0 → Bounded (ledger ++ entry ∷ [])
bounded_step ledger entry legal bounded is c said h =
    let low : minimum ledger ≤ seq ledger = bounded_minimum ledger bounded in
    let more : seq ledger ≤ seq (ledger ++ entry ∷ []) = seq_after ledger entry in
    elim (comes_from entry (seq ledger) (minimum ledger) c (client ledger c) said (sym (client-push ledger entry c) ∙ h)) [
      | inl before ↦ let bound : before.0.reference ≤ seq ledger = bounded c before.0 before.1.0 in omega (arith, before.1.1)
      | inr other ↦ elim other [
        | inl at ↦ omega (arith, at)
        | inr at ↦ (brought_within ledger entry said.reference low is at).1
      ]
    ]

bounded_nothing : Bounded []
unfolding client past_of past.client past.membership
bounded_nothing c said h = absurd (cc)

-- in a legal ledger no client refers beyond the last sequence number
pub references-bounded : (ledger : Ledger) → IsLegal ledger → (c : List ℕ) (said : Client) → client ledger c ≡ Some said → said.reference ≤ seq ledger
references-bounded ledger legal = legal-induction Bounded bounded_nothing bounded_step ledger legal

-- in a legal ledger the minimum is at most the last sequence number
pub minimum-bounded : (ledger : Ledger) → IsLegal ledger → minimum ledger ≤ seq ledger
minimum-bounded ledger legal = bounded_minimum ledger (references-bounded ledger legal)

-- ---- the minimum never falls

minimum_step : (ledger : Ledger) (entry : Entry) → IsLegal ledger → entry.1 ≡ verdict ledger entry.0 → minimum ledger ≤ minimum (ledger ++ entry ∷ [])
minimum_step ledger entry legal is =
    let low : minimum ledger ≤ seq ledger = minimum-bounded ledger legal in
    let more : seq ledger ≤ seq (ledger ++ entry ∷ []) = seq_after ledger entry in
    elim (minimum-is_least (ledger ++ entry ∷ [])).reached [
      | inl found ↦ elim (comes_from entry (seq ledger) (minimum ledger) found.0 (client ledger found.0) found.1.0 (sym (client-push ledger entry found.0) ∙ found.1.1.0)) [
        | inl before ↦
            let bound : minimum ledger ≤ before.0.reference = (minimum-is_least ledger).below found.0 before.0 before.1.0 in
            omega (arith, before.1.1, found.1.1.1)
        | inr other ↦ elim other [
          | inl at ↦ omega (arith, at, found.1.1.1)
          | inr at ↦ omega (arith, (brought_within ledger entry found.1.0.reference low is at).0, found.1.1.1)
        ]
      ]
      | inr nobody ↦ omega (arith, nobody.1)
    ]

-- the minimum never falls as a legal ledger grows
pub minimum-grows : (first second : Ledger) → IsLegal (first ++ second) → minimum first ≤ minimum (first ++ second)
minimum-grows first second legal =
    legal-growth (λ ledger. minimum first ≤ minimum ledger)
    (λ ledger entry legal holds is. let step : minimum ledger ≤ minimum (ledger ++ entry ∷ []) = minimum_step ledger entry legal is in omega (arith, holds))
    first second legal (omega arith)

-- ---- nacks

nacked_own : (sequence : ℕ) (submission : Submission) (n : Nack) (said : Client) (below : Bool) → is_below n.rule ≡ below →
    ((client_submitting sequence submission (Nacked n) said).reference ≡ said.reference) ⊎ ((client_submitting sequence submission (Nacked n) said).reference ≡ count_of n.minimum)
nacked_own sequence submission n said true h = inr (rw h refl)
nacked_own sequence submission n said false h = inl (rw h refl)

-- a client that submits what is nacked
abbrev nacking : ℕ → Submission → ℕ → Nack → Client → Client
nacking sequence submission moment n client = client_heard moment (client_submitting sequence submission (Nacked n) client)

-- a nack leaves each client's reference, or takes it to the minimum
nacked_from : (same : Bool) (sequence : ℕ) (submission : Submission) (moment : ℕ) (n : Nack) (said : Client) →
    (after : Client) × (((if same then option_map (nacking sequence submission moment n) (Some said) else Some said) ≡ Some after)
    × ((after.reference ≡ said.reference) ⊎ (after.reference ≡ count_of n.minimum)))
nacked_from true sequence submission moment n said = (nacking sequence submission moment n said, (refl, nacked_own sequence submission n said (is_below n.rule) refl))
nacked_from false sequence submission moment n said = (said, (refl, inl refl))

nobody_from : (same : Bool) (sequence : ℕ) (submission : Submission) (moment : ℕ) (n : Nack) →
    (if same then option_map (nacking sequence submission moment n) None else None) ≡ None
nobody_from true sequence submission moment n = refl
nobody_from false sequence submission moment n = refl

nacked_minimum : (ledger : Ledger) (id : List ℕ) (submission : Submission) (moment : ℕ) (n : Nack) → WasNacked ledger id n →
    minimum (ledger ++ (Submit id submission moment, Nacked n) ∷ []) ≤ minimum ledger
nacked_minimum ledger id submission moment n was =
    elim (minimum-is_least ledger).reached [
      | inl found ↦
          let after = nacked_from (bytes_eq id found.0) (seq ledger) submission moment n found.1.0 in
          let there : client (ledger ++ (Submit id submission moment, Nacked n) ∷ []) found.0 ≡ Some after.0 =
          client-push ledger (Submit id submission moment, Nacked n) found.0
          ∙ ap (client_behind (Submit id submission moment, Nacked n) (seq ledger) (minimum ledger) found.0) found.1.1.0
          ∙ after.1.0 in
          let bound = (minimum-is_least (ledger ++ (Submit id submission moment, Nacked n) ∷ [])).below found.0 after.0 there in
          elim after.1.1 [
            | inl at ↦ omega (arith, bound, at, found.1.1.1)
            | inr at ↦ omega (arith, bound, at, ap count_of was.minimum_is)
          ]
      | inr nobody ↦ elim (minimum-is_least (ledger ++ (Submit id submission moment, Nacked n) ∷ [])).reached [
        | inl found ↦
            let none : client (ledger ++ (Submit id submission moment, Nacked n) ∷ []) found.0 ≡ None =
            client-push ledger (Submit id submission moment, Nacked n) found.0
            ∙ ap (client_behind (Submit id submission moment, Nacked n) (seq ledger) (minimum ledger) found.0) (nobody.0 found.0)
            ∙ nobody_from (bytes_eq id found.0) (seq ledger) submission moment n in
            absurd (let no : None ≡ Some found.1.0 = sym none ∙ found.1.1.0 in cc)
        | inr none ↦ omega (arith, nobody.1, none.1, seq-push ledger (Submit id submission moment, Nacked n))
      ]
    ]

nack_is_submission : (ledger : Ledger) (raw : Raw) (n : Nack) → Nacked n ≡ verdict ledger raw →
    minimum (ledger ++ (raw, Nacked n) ∷ []) ≤ minimum ledger
unfolding verdict
nack_is_submission ledger (Join id scopes detail moment) n h = absurd (no_join (is_joined ledger id) (message ledger (Join id scopes detail moment)) h)
  where
    no_join : (joined : Bool) (o : Option Message) → Nacked n ≡ (if joined then Dropped else sequenced o) → ⊥
    no_join true o h = cc
    no_join false o h = not_nacked o n (sym h)
nack_is_submission ledger (Leave id moment) n h = absurd (no_leave (is_joined ledger id) (message ledger (Leave id moment)) h)
  where
    no_leave : (joined : Bool) (o : Option Message) → Nacked n ≡ (if joined then sequenced o else Dropped) → ⊥
    no_leave true o h = not_nacked o n (sym h)
    no_leave false o h = cc
nack_is_submission ledger (Submit id submission moment) n h =
    nacked_minimum ledger id submission moment n (nacked-was ledger id submission moment n h)
nack_is_submission ledger (Report summary found moment) n h = absurd (not_nacked (message ledger (Report summary found moment)) n (sym h))

-- a nack leaves the minimum as it is
pub nack-minimum : (ledger : Ledger) (raw : Raw) (n : Nack) → IsLegal (ledger ++ (raw, Nacked n) ∷ []) → minimum (ledger ++ (raw, Nacked n) ∷ []) ≡ minimum ledger
nack-minimum ledger raw n legal =
    let up : minimum ledger ≤ minimum (ledger ++ (raw, Nacked n) ∷ []) = minimum-grows ledger ((raw, Nacked n) ∷ []) legal in
    let down : minimum (ledger ++ (raw, Nacked n) ∷ []) ≤ minimum ledger = nack_is_submission ledger raw n (legal-last ledger (raw, Nacked n) legal) in
    omega arith

-- a nack leaves the last sequence number as it is
pub nack-seq : (ledger : Ledger) (raw : Raw) (n : Nack) → seq (ledger ++ (raw, Nacked n) ∷ []) ≡ seq ledger
nack-seq ledger raw n = omega (arith, seq-push ledger (raw, Nacked n))
