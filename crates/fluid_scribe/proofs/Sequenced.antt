-- The order of a legal ledger: how minima and references stand to the numbers of its messages.
use Rattle.std.proofs.Common.{◌≡◌, ℕ, zero, suc, ◌+◌, ◌≤◌, arith, Bool, true, false, List, [], ◌∷◌, ◌++◌, length, take, drop, fold, append-nil, Option, Some, None, option_map, refl, sym, ap, subst, ◌∙◌}
use Rattle.std.proofs.lemmas.List.Sums.{fold-append}
use Rattle.fluid_json.specs.Tree.{Tree}
use Rattle.fluid_types.specs.declared.entries.Raw.{Raw}
use Rattle.fluid_types.specs.declared.entries.Raw.TheVariants.{Join, Leave, Submit, Report}
use Rattle.fluid_types.specs.declared.entries.Scopes.{Scopes}
use Rattle.fluid_types.specs.declared.entries.Submission.{Submission}
use Rattle.fluid_types.specs.declared.messages.Kind.{Kind}
use Rattle.fluid_types.specs.declared.messages.Kind.TheVariants.{SummaryAck, SummaryNack}
use Rattle.fluid_types.specs.declared.messages.Message.{Message}
use Rattle.fluid_types.specs.declared.verdicts.Verdict.{Verdict}
use Rattle.fluid_types.specs.declared.verdicts.Verdict.TheVariants.{Sequenced, Nacked, Dropped, Absorbed}
use Rattle.fluid_types.specs.Ledger.{Ledger, messages_of, order, seq}
use Rattle.fluid_types.specs.Order.{AreNumberedFrom}
use Rattle.fluid_types.proofs.Ledgers.{order-push, seq-push}
use Rattle.fluid_rules.specs.Rules.{minimum, answer_message, unsettled, settled, message, verdict, IsLegal}
use Rattle.fluid_rules.specs.Scribe.{is_summarize, reference_of, ack_contents, refusal_contents, reported}
use Rattle.fluid_rules.specs.Scribe.{answer as answer_by_rules}
use Rattle.fluid_rules.specs.declared.answers.Answer.{Answer}
use Rattle.fluid_rules.specs.declared.answers.Answer.TheVariants as answer
use Rattle.fluid_rules.proofs.Growth.{minimum-bounded, minimum-grows}
use Rattle.fluid_rules.proofs.Legal.{legal-induction, legal-push}
use Rattle.fluid_rules.proofs.Settled.{message-minimum}
use Rattle.fluid_rules.proofs.Verdicts.{verdict-is_message, message-number, some_message, sequenced-was, reference-within}

-- a message behind so many others, of which the last has this minimum
pub record IsNext (n low : ℕ) (m : Message) : Type 0 where
  pub number : m.number ≡ n + 1
  pub risen : low ≤ m.minimum
  pub bounded : m.minimum ≤ n + 1
  pub above : is_summarize m.kind ≡ true → low ≤ reference_of m
  pub within : is_summarize m.kind ≡ true → reference_of m ≤ n + 1

abbrev pub AreSequenced : ℕ → ℕ → List Message → Type 0
AreSequenced n low [] = Unit {0}
AreSequenced n low (m ∷ ms) = IsNext n low m × AreSequenced (suc n) m.minimum ms

-- the minimum of the last message
abbrev pub last_of : ℕ → List Message → ℕ
last_of low ms = fold (λ before m. m.minimum) low ms

pub last_of-push : (low : ℕ) (ms : List Message) (m : Message) → last_of low (ms ++ m ∷ []) ≡ m.minimum
last_of-push low ms m = fold-append (λ before k. k.minimum) low ms (m ∷ [])

pub sequenced-numbered : (ms : List Message) (n low : ℕ) → AreSequenced n low ms → AreNumberedFrom (suc n) ms
sequenced-numbered [] n low are = tt
sequenced-numbered (m ∷ ms) n low are = (are.0.number ∙ omega arith, sequenced-numbered ms (suc n) m.minimum are.1)

pub next-same : (n k low high : ℕ) (m : Message) → n ≡ k → low ≡ high → IsNext n low m → IsNext k high m
next-same n k low high m n_is low_is next = subst (λ a. IsNext a high m) n_is (subst (λ b. IsNext n b m) low_is next)

pub sequenced-same : (ms : List Message) (n k low high : ℕ) → n ≡ k → low ≡ high → AreSequenced n low ms → AreSequenced k high ms
sequenced-same ms n k low high n_is low_is are = subst (λ a. AreSequenced a high ms) n_is (subst (λ b. AreSequenced n b ms) low_is are)

-- one more at the end
pub sequenced-push : (ms : List Message) (n low : ℕ) (m : Message) → AreSequenced n low ms → IsNext (n + length ms) (last_of low ms) m → AreSequenced n low (ms ++ m ∷ [])
sequenced-push [] n low m are next = (next-same (n + 0) n low low m (omega arith) refl next, tt)
sequenced-push (x ∷ ms) n low m are next =
    (are.0, sequenced-push ms (suc n) x.minimum m are.1 (next-same (n + suc (length ms)) (suc n + length ms) _ _ m (omega arith) refl next))

pub last-bounded : (ms : List Message) (n low : ℕ) → AreSequenced n low ms → low ≤ n → last_of low ms ≤ n + length ms
last-bounded [] n low are le = omega (arith, le)
last-bounded (m ∷ ms) n low are le = omega (arith, last-bounded ms (suc n) m.minimum are.1 (omega (arith, are.0.bounded)))

-- behind the first of them
pub sequenced-drop : (k : ℕ) (ms : List Message) (n low : ℕ) → AreSequenced n low ms → k ≤ length ms → AreSequenced (n + k) (last_of low (take k ms)) (drop k ms)
sequenced-drop zero ms n low are le = sequenced-same ms n (n + 0) low low (omega arith) refl are
sequenced-drop (suc k) [] n low are le = absurd (omega (arith, le))
sequenced-drop (suc k) (m ∷ ms) n low are le =
    sequenced-same (drop k ms) (suc n + k) (n + suc k) _ _ (omega arith) refl (sequenced-drop k ms (suc n) m.minimum are.1 (omega (arith, le)))

-- ---- legal ledgers

-- a submission that is sequenced refers to no message below the minimum, and to none that isn't there
submitted_said : (l : Ledger) (c : List ℕ) (submission : Submission) (moment : ℕ) (m : Message) → IsLegal l → verdict l (Submit c submission moment) ≡ Sequenced m →
    (minimum l ≤ reference_of m) × (reference_of m ≤ seq l + 1)
unfolding verdict
submitted_said l c submission moment m legal is = reference-within l c submission moment m (minimum-bounded l legal) (sequenced-was l c submission moment m (sym is))

none_of_it : (b : Bool) → b ≡ false → b ≡ true → ⊥
none_of_it true h is = cc
none_of_it false h is = cc

-- no message of a report is a summarize
reported_kind : (summary : ℕ) (a : Answer) (said : Kind × Tree) → reported summary a ≡ Some said → is_summarize said.0 ≡ false
reported_kind summary answer.Dropped said is = absurd (cc)
reported_kind summary (answer.Ack handle) said is = let same : (SummaryAck, ack_contents summary handle) ≡ said = cc in rw (sym same) refl
reported_kind summary (answer.Refused rule) said is = let same : (SummaryNack, refusal_contents summary rule) ≡ said = cc in rw (sym same) refl

of_report : (o : Option (Kind × Tree)) (l : Ledger) (raw : Raw) (number moment : ℕ) (m : Message) → ((said : Kind × Tree) → o ≡ Some said → is_summarize said.0 ≡ false) →
    option_map (settled l raw) (option_map (answer_message number moment) o) ≡ Some m → is_summarize m.kind ≡ false
of_report None l raw number moment m at is = absurd (cc)
of_report (Some said) l raw number moment m at is = ap (λ (x : Message). is_summarize x.kind) (sym (some_message _ m is)) ∙ at said refl

joined_kind : (l : Ledger) (id : List ℕ) (scopes : Scopes) (detail : Tree) (moment : ℕ) (m : Message) → message l (Join id scopes detail moment) ≡ Some m → is_summarize m.kind ≡ false
unfolding message unsettled
joined_kind l id scopes detail moment m is = ap (λ (x : Message). is_summarize x.kind) (sym (some_message _ m is))

left_kind : (l : Ledger) (id : List ℕ) (moment : ℕ) (m : Message) → message l (Leave id moment) ≡ Some m → is_summarize m.kind ≡ false
unfolding message unsettled
left_kind l id moment m is = ap (λ (x : Message). is_summarize x.kind) (sym (some_message _ m is))

report_kind : (l : Ledger) (summary moment : ℕ) (found : Bool) (m : Message) → message l (Report summary found moment) ≡ Some m → is_summarize m.kind ≡ false
unfolding message unsettled
report_kind l summary moment found m is =
    of_report (reported summary (answer_by_rules (order l) summary found)) l (Report summary found moment) (seq l + 1) moment m
    (λ said h. reported_kind summary (answer_by_rules (order l) summary found) said h) is

-- a message that is a summarize is that of a submission
summarize_said : (l : Ledger) (raw : Raw) (m : Message) → IsLegal l → verdict l raw ≡ Sequenced m → is_summarize m.kind ≡ true →
    (minimum l ≤ reference_of m) × (reference_of m ≤ seq l + 1)
summarize_said l (Submit c submission moment) m legal is summarize = submitted_said l c submission moment m legal is
summarize_said l (Join id scopes detail moment) m legal is summarize = absurd (none_of_it _ (joined_kind l id scopes detail moment m (verdict-is_message l (Join id scopes detail moment) m is)) summarize)
summarize_said l (Leave id moment) m legal is summarize = absurd (none_of_it _ (left_kind l id moment m (verdict-is_message l (Leave id moment) m is)) summarize)
summarize_said l (Report summary found moment) m legal is summarize = absurd (none_of_it _ (report_kind l summary moment found m (verdict-is_message l (Report summary found moment) m is)) summarize)

pub record Stood (l : Ledger) : Type 0 where
  pub are : AreSequenced 0 0 (order l)
  pub low : last_of 0 (order l) ≤ minimum l

pub next-message : (l : Ledger) (raw : Raw) (m : Message) → IsLegal l → Stood l → verdict l raw ≡ Sequenced m → IsNext (length (order l)) (last_of 0 (order l)) m
unfolding seq
next-message l raw m legal stood is =
    let is_message = verdict-is_message l raw m is in
    let after = l ++ (raw, Sequenced m) ∷ [] in
    let grown = legal-push l (raw, Sequenced m) legal (sym is) in
    let carries = message-minimum l raw m is_message in
    let said = summarize_said l raw m legal is in
    record {
      number = message-number l raw m is_message;
      risen = omega (arith, stood.low, minimum-grows l ((raw, Sequenced m) ∷ []) grown, carries);
      bounded = omega (arith, minimum-bounded after grown, seq-push l (raw, Sequenced m), carries);
      above = λ summarize. omega (arith, stood.low, (said summarize).0);
      within = λ summarize. (said summarize).1;
    }

stood-behind : (l : Ledger) (raw : Raw) (v : Verdict) → IsLegal l → Stood l → verdict l raw ≡ v →
    (AreSequenced 0 0 (order l ++ messages_of v)) × (last_of 0 (order l ++ messages_of v) ≤ minimum (l ++ (raw, v) ∷ []))
stood-behind l raw (Sequenced m) legal stood is = (
  sequenced-push (order l) 0 0 m stood.are (next-same (length (order l)) (0 + length (order l)) _ _ m (omega arith) refl (next-message l raw m legal stood is)),
  omega (arith, last_of-push 0 (order l) m, message-minimum l raw m (verdict-is_message l raw m is)),
)
stood-behind l raw (Nacked nack) legal stood is =
    rw (append-nil (order l)) (stood.are, omega (arith, stood.low, minimum-grows l ((raw, Nacked nack) ∷ []) (legal-push l (raw, Nacked nack) legal (sym is))))
stood-behind l raw Dropped legal stood is =
    rw (append-nil (order l)) (stood.are, omega (arith, stood.low, minimum-grows l ((raw, Dropped) ∷ []) (legal-push l (raw, Dropped) legal (sym is))))
stood-behind l raw Absorbed legal stood is =
    rw (append-nil (order l)) (stood.are, omega (arith, stood.low, minimum-grows l ((raw, Absorbed) ∷ []) (legal-push l (raw, Absorbed) legal (sym is))))

stood_first : Stood []
unfolding order
stood_first = record { are = tt; low = omega arith }

pub stood : (l : Ledger) → IsLegal l → Stood l
stood =
    legal-induction Stood stood_first
    (λ l entry legal before is.
    let behind = stood-behind l entry.0 entry.1 legal before (sym is) in
    record { are = rw (order-push l entry) behind.0; low = rw (order-push l entry) behind.1 })

-- its messages follow one another so
pub legal-sequenced : (l : Ledger) → IsLegal l → AreSequenced 0 0 (order l)
legal-sequenced l legal = (stood l legal).are
