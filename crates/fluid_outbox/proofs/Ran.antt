-- A run worked out beside its ledger.
use Rattle.std.proofs.Common.{◌≡◌, ◌≤◌, Bool, ◌||◌, true, false, List, [], ◌∷◌, ◌++◌, length, Option, Some, None, refl, sym, ap, subst, ◌∙◌, arith, inl, inr, bytes_eq}
use Rattle.std.specs.Prelude.{ℕ, reverse, filter_map}
use Rattle.std.specs.List.{list_any, AllByRecursion}
use Rattle.fluid_rules.specs.Past.{joins, has_id}
use Rattle.std.proofs.lemmas.Slice.Eq.{bytes_eq-Decides}
use Rattle.json.specs.Print.{escape_byte}
use Rattle.fluid_json.specs.Tree.{text}
use Rattle.fluid_json.specs.Printed.{printed}
use Rattle.fluid_types.specs.Ledger.{order, seq}
use Rattle.fluid_types.specs.Texts.{code_of, kind_of, rule_text}
use Rattle.fluid_rules.specs.Past as past
use Rattle.fluid_rules.specs.Rules.{past_of, is_joined, last_number, is_nacked, reference, scopes, heard, joined, minimum, last_minimum, lifted, unsettled, message, nack, submission_verdict, verdict, ledger, IsLegal}
use Rattle.fluid_rules.specs.Scribe.{unanswered, acks, acks_behind, ack_of}
use Rattle.fluid_rules.proofs.Legal.{ledger-legal}
use Rattle.fluid_outbox.specs.Past.{Given, is_sent, edits, ids, messages, heard_to, current, leaves, op_of, given, was_given, sent, has_left, is_awaited, awaits, may_send, next, acknowledged, is_out, first_waiting, op_with}
use Rattle.fluid_outbox.specs.Runs.{AreMade, IsOwn, AreBehind, standing}
use Rattle.fluid_outbox.specs.Kept as kept
use Rattle.fluid_outbox.specs.Examples.{a, b, ten, eleven, came_back, entered}

pub is_made : AreMade (kept.past_of came_back)
unfolding past.membership past.tail past.last_number past.is_nacked past.latest_taken past.reference_from past.heard past.put_id past.ever_joined past.joined past.entered_at past.minimum past.reference order seq past_of is_joined last_number is_nacked reference scopes heard joined minimum last_minimum lifted unsettled message nack submission_verdict verdict ledger unanswered acks acks_behind ack_of code_of kind_of rule_text edits ids messages heard_to current leaves op_of given was_given sent has_left is_awaited awaits may_send next acknowledged is_out first_waiting escape_byte
is_made = (refl, ((4, refl), (refl, (refl, (refl, (refl, (refl, ((1, refl), ((1, refl), (refl, (refl, (refl, tt))))))))))))

pub is_heard : order entered ≡ messages (kept.past_of came_back) ++ []
unfolding past.membership past.tail past.last_number past.is_nacked past.latest_taken past.reference_from past.heard past.put_id past.ever_joined past.joined past.entered_at past.minimum past.reference order seq past_of is_joined last_number is_nacked reference scopes heard joined minimum last_minimum lifted unsettled message nack submission_verdict verdict ledger unanswered acks acks_behind ack_of code_of kind_of rule_text messages
is_heard = refl

pub is_own : AllByRecursion (IsOwn (kept.past_of came_back)) entered
unfolding past.membership past.tail past.last_number past.is_nacked past.latest_taken past.reference_from past.heard past.put_id past.ever_joined past.joined past.entered_at past.minimum past.reference order seq past_of is_joined last_number is_nacked reference scopes heard joined minimum last_minimum lifted unsettled message nack submission_verdict verdict ledger unanswered acks acks_behind ack_of code_of kind_of rule_text messages given ids
is_own = (tt, (λ of. inr (inr (inl (record { id_is = refl; submission_is = refl }))), (tt, (tt, (λ of. inl (record { id_is = refl; submission_is = refl }), tt)))))

-- no id is both
not_both : (id : List ℕ) → bytes_eq a id ≡ true → bytes_eq b id ≡ true → ⊥
not_both id one other =
    let first : a ≡ id = (bytes_eq-Decides a id).0 one in
    let second : b ≡ id = (bytes_eq-Decides b id).0 other in
    let same : bytes_eq a b ≡ true = (bytes_eq-Decides a b).1 (first ∙ sym second) in cc

pub is_once : (id : List ℕ) → has_id id (ids (kept.past_of came_back)) ≡ true → length (filter_map (joins id) entered) ≤ 1
unfolding past.membership past.tail past.last_number past.is_nacked past.latest_taken past.reference_from past.heard past.put_id past.ever_joined past.joined past.entered_at past.minimum past.reference order seq past_of is_joined last_number is_nacked reference scopes heard joined minimum last_minimum lifted unsettled message nack submission_verdict verdict ledger unanswered acks acks_behind ack_of code_of kind_of rule_text
is_once id of = by (bytes_eq a id) (bytes_eq b id) refl refl
  where
    by : (one other : Bool) → bytes_eq a id ≡ one → bytes_eq b id ≡ other → length (filter_map (joins id) entered) ≤ 1
    by true true one other = absurd (not_both id one other)
    by true false one other = rw (one, other) omega arith
    by false true one other = rw (one, other) omega arith
    by false false one other = rw (one, other) omega arith

pub is_legal : IsLegal entered
is_legal = ledger-legal _

none_given : {P : Type 0} (op : List ℕ × ℕ) → ◌≡◌ {A = Option (List ℕ × ℕ)} None (Some op) → P
none_given op is = absurd (cc)

no_leave : {P : Type 0} → ◌≡◌ {A = Bool} false true → P
no_leave is = absurd (cc)

-- what `next` gave
abbrev first : Given
first = record { id = a; edit = 0; submission = op_with 1 1 ten }

abbrev second : Given
second = record { id = a; edit = 1; submission = op_with 2 1 eleven }

abbrev third : Given
third = record { id = b; edit = 1; submission = op_with 1 4 eleven }

-- an op that was heard was sent
of_same : (own : List ℕ) (given : List Given) → list_any (is_sent own 1) given ≡ true → (id : List ℕ) (number : ℕ) → ◌≡◌ {A = Option (List ℕ × ℕ)} (Some (own, 1)) (Some (id, number))
    → list_any (is_sent id number) given ≡ true
of_same own given was id number is = let same : (own, 1) ≡ (id, number) = cc in subst (λ (p : List ℕ × ℕ). list_any (is_sent p.0 p.1) given ≡ true) same was

-- and a leave is that of the first client
left : (is_left : List ℕ → Bool) (id : List ℕ) → is_left b ≡ false → is_left id ≡ true → (bytes_eq id b || (bytes_eq id a || false)) ≡ true → (bytes_eq id a || false) ≡ true
left is_left id other is = by (bytes_eq id a) (bytes_eq id b) refl refl
  where
    by : (one other : Bool) → bytes_eq id a ≡ one → bytes_eq id b ≡ other → (other || (one || false)) ≡ true → (one || false) ≡ true
    by true other_one at later of = refl
    by false true at later of = let wrong : true ≡ false = sym is ∙ ap is_left ((bytes_eq-Decides id b).0 later) ∙ other in absurd (cc)
    by false false at later of = absurd (cc)

pub is_behind : AreBehind (ids (kept.past_of came_back)) (kept.past_of came_back)
unfolding past.membership past.tail past.last_number past.is_nacked past.latest_taken past.reference_from past.heard past.put_id past.ever_joined past.joined past.entered_at past.minimum past.reference order seq past_of is_joined last_number is_nacked reference scopes heard joined minimum last_minimum lifted unsettled message nack submission_verdict verdict ledger unanswered acks acks_behind ack_of code_of kind_of rule_text messages given ids op_of leaves sent has_left escape_byte
is_behind = (
  record { op = λ id number is of. of_same b (third ∷ second ∷ first ∷ []) refl id number is; leave = λ id is of. no_leave is },
  (
    record { op = λ id number is of. none_given (id, number) is; leave = λ id is of. no_leave is },
    (
      record { op = λ id number is of. none_given (id, number) is; leave = λ id is of. left (λ x. bytes_eq (printed (text a)) (printed (text x))) id refl is of },
      (
        record { op = λ id number is of. of_same a (second ∷ first ∷ []) refl id number is; leave = λ id is of. no_leave is },
        (record { op = λ id number is of. none_given (id, number) is; leave = λ id is of. no_leave is }, tt),
      ),
    ),
  ),
)

pub does_stand : standing (reverse came_back) (order entered) ≡ 0 ∷ 1 ∷ []
unfolding past.membership past.tail past.last_number past.is_nacked past.latest_taken past.reference_from past.heard past.put_id past.ever_joined past.joined past.entered_at past.minimum past.reference order seq past_of is_joined last_number is_nacked reference scopes heard joined minimum last_minimum lifted unsettled message nack submission_verdict verdict ledger unanswered acks acks_behind ack_of code_of kind_of rule_text given op_of
does_stand = refl
