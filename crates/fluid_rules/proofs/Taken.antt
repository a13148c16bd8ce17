-- Submissions that are sequenced or absorbed: their numbers, their references, and what an absorbed one lifts the minimum to.
use Rattle.std.proofs.Common.{◌≡◌, ℕ, ◌+◌, ◌≤◌, min, Bool, true, false, not, ◌&&◌, ◌||◌, List, [], ◌∷◌, ◌++◌, map, fold, filter, append-nil, Option, Some, is_some, refl, sym, ◌∙◌, ap, inl, inr, arith, bytes_eq, nat_le, nat_lt, if◌then◌else◌}
use Rattle.std.proofs.lemmas.Bool.{ltb-false, leb-false}
use Rattle.fluid_types.specs.declared.entries.Raw.{Raw}
use Rattle.fluid_types.specs.declared.entries.Raw.TheVariants.{Submit}
use Rattle.fluid_types.specs.declared.entries.Submission.{Submission}
use Rattle.fluid_types.specs.declared.messages.Message.{Message}
use Rattle.fluid_types.specs.declared.verdicts.Verdict.{Verdict}
use Rattle.fluid_types.specs.declared.verdicts.Verdict.TheVariants.{Sequenced, Absorbed}
use Rattle.fluid_types.specs.Ledger.{Ledger, order, seq}
use Rattle.fluid_types.proofs.Ledgers.{order-push, seq-push}
use Rattle.fluid_rules.specs.Past.{Client, IsLeast, has_id, client_taking, client_heard, client_submitting, count_of, read_as}
use Rattle.fluid_rules.specs.Rules.{is_joined, last_number, is_nacked, reference, scopes, heard, client, joined, minimum, lifted, verdict}
use Rattle.fluid_rules.specs.Laws.{KeepsOrder, IsTaken}
use Rattle.fluid_rules.proofs.Ids.{same_id, own_id, filter-has}
use Rattle.fluid_rules.proofs.Clients.{client-joined}
use Rattle.fluid_rules.proofs.Joined.{some_same}
use Rattle.fluid_rules.proofs.Least.{least_of}
use Rattle.fluid_rules.proofs.Minimum.{joined-has, is_joined-client, minimum-is_least, least-unique}
use Rattle.fluid_rules.proofs.Pushed.{client-push}
use Rattle.fluid_rules.proofs.Heard.{last_minimum-push}
use Rattle.fluid_rules.proofs.Settled.{least-same}
use Rattle.fluid_rules.proofs.Verdicts.{Passes, sequenced-was, absorbed-was, message-reference}

-- ---- the order

-- an absorbed entry leaves the order
pub absorbed-keeps : (l : Ledger) (raw : Raw) → KeepsOrder l (l ++ (raw, Absorbed) ∷ [])
absorbed-keeps l raw = record {
  same_order = order-push l (raw, Absorbed) ∙ append-nil (order l);
  same_seq = omega (arith, seq-push l (raw, Absorbed));
  same_last_minimum = last_minimum-push l (raw, Absorbed);
}

-- ---- the client

or_left : (a b : Bool) → (a || b) ≡ false → a ≡ false
or_left true b h = absurd (cc)
or_left false b h = refl

or_right : (a b : Bool) → (a || b) ≡ false → b ≡ false
or_right true b h = absurd (cc)
or_right false b h = h

not_false : (a : Bool) → not a ≡ false → a ≡ true
not_false true h = refl
not_false false h = absurd (cc)

-- a submission that no rule refuses is its joined client's next, and the client wasn't refused before
record IsNext (l : Ledger) (c : List ℕ) (submission : Submission) : Type 0 where
  joined : is_joined l c ≡ true
  in_order : is_nacked l c ≡ false
  next : submission.client_number ≡ last_number l c + 1

is_next : (l : Ledger) (c : List ℕ) (submission : Submission) → Passes l c submission → IsNext l c submission
is_next l c submission was =
    let joined = not_false (is_joined l c) (or_left (not (is_joined l c)) (is_nacked l c) was.in_order) in
    let above : nat_le submission.client_number (last_number l c) ≡ false = rw joined at was.no_duplicate in
    let within : nat_lt (last_number l c + 1) submission.client_number ≡ false = rw joined at was.no_gap in
    record {
      joined = joined;
      in_order = or_right (not (is_joined l c)) (is_nacked l c) was.in_order;
      next = omega (arith, leb-false submission.client_number (last_number l c) above, ltb-false (last_number l c + 1) submission.client_number within);
    }

-- what is said of the client behind such a submission
abbrev said_of : Ledger → List ℕ → Client
said_of l c = record { last = last_number l c; reference = reference l c; nacked = is_nacked l c; scopes = scopes l c; heard = heard l c }

abbrev said_behind : Ledger → List ℕ → Submission → ℕ → ℕ → Client
said_behind l c submission moment taken =
    record { last = submission.client_number; reference = taken; nacked = is_nacked l c; scopes = scopes l c; heard = moment }

module _ (l : Ledger) (c : List ℕ) (submission : Submission) (moment : ℕ) (v : Verdict) (taken : ℕ)
    (takes : (said : Client) → client_submitting (seq l) submission v said ≡ client_taking submission.client_number taken said)
    (next : IsNext l c submission) where
  abbrev after : Ledger
  after = l ++ (Submit c submission moment, v) ∷ []

  in_order_taking : client_taking submission.client_number taken (said_of l c) ≡ record (said_of l c) { last = submission.client_number; reference = taken }
  in_order_taking = rw next.in_order refl

  own_behind : client after c ≡ Some (said_behind l c submission moment taken)
  own_behind =
      let same : client_submitting (seq l) submission v (said_of l c) ≡ record (said_of l c) { last = submission.client_number; reference = taken } =
      takes (said_of l c) ∙ in_order_taking in
      client-push l (Submit c submission moment, v) c
      ∙ rw (own_id c, client-joined l c next.joined) (ap (λ said. Some (client_heard moment said)) same)

  joined_behind : is_joined after c ≡ true
  joined_behind = is_joined-client after c ∙ ap is_some own_behind

  same_behind : said_of after c ≡ said_behind l c submission moment taken
  same_behind = some_same _ _ (sym (client-joined after c joined_behind) ∙ own_behind)

  is_taken : IsTaken l after c submission taken
  is_taken = record {
    joined = next.joined;
    next = next.next;
    counted = ap (λ (said : Client). said.last) same_behind;
    reference_is = ap (λ (said : Client). said.reference) same_behind;
  }

  other_behind : (d : List ℕ) → bytes_eq c d ≡ false → client after d ≡ client l d
  other_behind d h = client-push l (Submit c submission moment, v) d ∙ rw h refl

pub sequenced-taken : (l : Ledger) (c : List ℕ) (submission : Submission) (moment : ℕ) (m : Message) → verdict l (Submit c submission moment) ≡ Sequenced m →
    IsTaken l (l ++ (Submit c submission moment, Sequenced m) ∷ []) c submission (read_as m.number submission.reference)
unfolding verdict
sequenced-taken l c submission moment m is =
    let was = sequenced-was l c submission moment m (sym is) in
    rw (sym (message-reference l c submission moment m was.is_message))
    (is_taken l c submission moment (Sequenced m) (count_of m.reference) (λ said. refl) (is_next l c submission was.passes))

pub absorbed-taken : (l : Ledger) (c : List ℕ) (submission : Submission) (moment : ℕ) → verdict l (Submit c submission moment) ≡ Absorbed →
    IsTaken l (l ++ (Submit c submission moment, Absorbed) ∷ []) c submission (read_as (seq l) submission.reference)
unfolding verdict
absorbed-taken l c submission moment is =
    is_taken l c submission moment Absorbed (read_as (seq l) submission.reference) (λ said. refl) (is_next l c submission (absorbed-was l c submission moment (sym is)))

-- ---- the minimum behind an absorbed noop

and_right : (a b : Bool) → (a && b) ≡ true → b ≡ true
and_right true b h = h
and_right false b h = absurd (cc)

turned : (c d : List ℕ) (b : Bool) → bytes_eq c d ≡ b → bytes_eq d c ≡ b
turned c d true h = rw (same_id c d h) (own_id d)
turned c d false h = other (bytes_eq d c) refl
  where
    other : (b : Bool) → bytes_eq d c ≡ b → b ≡ false
    other true is = absurd (let no : true ≡ false = sym (own_id c) ∙ rw (same_id d c is) at h in cc)
    other false is = refl

module _ (l : Ledger) (c : List ℕ) (submission : Submission) (own : Client) (own_is : own.reference ≡ read_as (seq l) submission.reference) where
  abbrev brought : ℕ
  brought = read_as (seq l) submission.reference

  abbrev others : List (List ℕ)
  others = filter (λ d. not (bytes_eq d c)) (joined l)

  -- what would be said of a client, were this one said of c
  abbrev said_then : List ℕ → Option Client
  said_then d = if bytes_eq c d then Some own else client l d

  -- another client is joined exactly where it is among the others
  among : (d : List ℕ) → bytes_eq c d ≡ false → has_id d others ≡ is_joined l d
  among d h = filter-has (λ d. not (bytes_eq d c)) d (joined l) ∙ rw (turned c d false h, joined-has l d) (and_true (is_joined l d))
    where
      and_true : (b : Bool) → (b && true) ≡ b
      and_true true = refl
      and_true false = refl

  below_at : (same : Bool) (d : List ℕ) (said : Client) → bytes_eq c d ≡ same → (if same then Some own else client l d) ≡ Some said →
      fold min brought (map (reference l) others) ≤ said.reference
  below_at true d said h is =
      let least = least_of (reference l) others brought in
      let at : brought ≡ said.reference = sym own_is ∙ ap (λ (said : Client). said.reference) (some_same own said is) in
      omega (arith, least.at_first)
  below_at false d said h is =
      let least = least_of (reference l) others brought in
      let joined : is_joined l d ≡ true = is_joined-client l d ∙ ap is_some is in
      let at : reference l d ≡ said.reference = ap (λ (said : Client). said.reference) (some_same _ _ (sym (client-joined l d joined) ∙ is)) in
      let bound : fold min brought (map (reference l) others) ≤ reference l d = least.at_each d (among d h ∙ joined) in
      omega arith

  abbrev Reached : Type 0
  Reached = (d : List ℕ) × ((said : Client) × ((said_then d ≡ Some said) × (fold min brought (map (reference l) others) ≡ said.reference)))

  reached_at : (same : Bool) (d : List ℕ) → bytes_eq c d ≡ same → has_id d others ≡ true → fold min brought (map (reference l) others) ≡ reference l d → Reached
  reached_at true d h has is =
      let there : (has_id d (joined l) && not (bytes_eq d c)) ≡ true = sym (filter-has (λ d. not (bytes_eq d c)) d (joined l)) ∙ has in
      let other : not (bytes_eq d c) ≡ true = and_right (has_id d (joined l)) (not (bytes_eq d c)) there in
      absurd (let no : false ≡ true = rw (turned c d true h) at other in cc)
  reached_at false d h has is =
      let joined : is_joined l d ≡ true = sym (among d h) ∙ has in
      (d, (said_of l d, (rw h (client-joined l d joined), is)))

  least_then : IsLeast said_then (seq l) (fold min brought (map (reference l) others))
  least_then = record {
    below = λ d said is. below_at (bytes_eq c d) d said refl is;
    reached = inl (elim (least_of (reference l) others brought).reached [
      | inl first ↦ (c, (own, (rw (own_id c) refl, first ∙ sym own_is)))
      | inr found ↦ reached_at (bytes_eq c found.0) found.0 refl found.1.0 found.1.1
    ]);
  }

-- it is the least reference, were the client's that of the submission
pub lifted-least : (l : Ledger) (c : List ℕ) (submission : Submission) (own : Client) → own.reference ≡ read_as (seq l) submission.reference →
    IsLeast (λ d. if bytes_eq c d then Some own else client l d) (seq l) (lifted l c submission)
unfolding lifted
lifted-least l c submission own is = least_then l c submission own is

behind_at : (same : Bool) (l : Ledger) (c d : List ℕ) (submission : Submission) (moment : ℕ) → bytes_eq c d ≡ same → IsNext l c submission →
    (if same then Some (said_behind l c submission moment (read_as (seq l) submission.reference)) else client l d)
    ≡ client (l ++ (Submit c submission moment, Absorbed) ∷ []) d
behind_at true l c d submission moment h next =
    sym (own_behind l c submission moment Absorbed (read_as (seq l) submission.reference) (λ said. refl) next)
    ∙ ap (client (l ++ (Submit c submission moment, Absorbed) ∷ [])) (same_id c d h)
behind_at false l c d submission moment h next =
    sym (other_behind l c submission moment Absorbed (read_as (seq l) submission.reference) (λ said. refl) next d h)

-- behind an absorbed noop the minimum is what it lifts it to
pub absorbed-lifts : (l : Ledger) (c : List ℕ) (submission : Submission) (moment : ℕ) → verdict l (Submit c submission moment) ≡ Absorbed →
    minimum (l ++ (Submit c submission moment, Absorbed) ∷ []) ≡ lifted l c submission
unfolding verdict
absorbed-lifts l c submission moment is =
    let after : Ledger = l ++ (Submit c submission moment, Absorbed) ∷ [] in
    let next : IsNext l c submission = is_next l c submission (absorbed-was l c submission moment (sym is)) in
    let own : Client = said_behind l c submission moment (read_as (seq l) submission.reference) in
    let least : IsLeast (λ d. if bytes_eq c d then Some own else client l d) (seq l) (lifted l c submission) = lifted-least l c submission own refl in
    least-unique (client after) (seq after) _ _ (minimum-is_least after)
    (least-same (λ d. if bytes_eq c d then Some own else client l d) (client after) (seq l) (seq after) (lifted l c submission)
    (λ d. behind_at (bytes_eq c d) l c d submission moment refl next) (sym (absorbed-keeps l (Submit c submission moment)).same_seq) least)
